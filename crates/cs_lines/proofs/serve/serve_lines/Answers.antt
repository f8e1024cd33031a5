use Rattle.std.proofs.Common.{◌≡◌, arith}
use Rattle.std.proofs.lemmas.Result.{err_from_is_err_and}
use Rattle.cs_lines.specs.declared.serve.TheConstants.{ASKS}
use Rattle.cs_lines.specs.declared.serve.Turn.{Turn}
use Rattle.cs_lines.proofs.ServedLemmas.{sent_through, served_none, served_more, served_all, served_all_asked, stopped_reading, stopped_writing}
use Rattle.cs_lines.proofs.serve.serve_lines.Goals as goal

pub loop-asked-init : goal.loop-asked-init
loop-asked-init g c = (served_none _ _ _ _ _, λ sent. sent)

pub returns-in_err-serve_line-clause-read : goal.returns-in_err-serve_line-clause-read
returns-in_err-serve_line-clause-read g c =
    let stop = err_from_is_err_and c.from_residual.result c.from_residual.ensures.1 in
    let turn = c.in_err-serve_line.ensures in
    rw (stop.1, stop.2) (stopped_reading _ _ _ _ _ _ _ _ _ _ _ _ _ _ _ _ c.loop-asked.invariant.0 turn.turn turn.failed)

pub returns-in_err-serve_line-clause-write : goal.returns-in_err-serve_line-clause-write
returns-in_err-serve_line-clause-write g c =
    let stop = err_from_is_err_and c.from_residual.result c.from_residual.ensures.1 in
    let turn = c.in_err-serve_line.ensures in
    rw (stop.1, stop.2) (stopped_writing _ _ _ _ _ _ _ _ _ _ _ _ _ _ _ c.loop-asked.invariant.0 turn.turn turn.failed)

pub returns-in_err-serve_line-clause-sent : goal.returns-in_err-serve_line-clause-sent
returns-in_err-serve_line-clause-sent g c =
    let stop = err_from_is_err_and c.from_residual.result c.from_residual.ensures.1 in
    rw (stop.1, stop.2) (sent_through Turn (Unit {0}) _ _ _ _ c.loop-asked.invariant.1 c.in_err-serve_line.ensures.sent)

pub returns-in-Ended-clause-served : goal.returns-in-Ended-clause-served
returns-in-Ended-clause-served g c =
    let turn = rw c.in-Ended.is at c.in_ok-serve_line.ensures.turn in
    served_all _ _ _ _ _ _ _ _ _ _ _ c.loop-asked.invariant.0 turn

pub returns-in-Ended-clause-sent : goal.returns-in-Ended-clause-sent
returns-in-Ended-clause-sent g c = λ sent. c.in_ok-serve_line.ensures.sent (c.loop-asked.invariant.1 sent)

pub loop-asked-preserved : goal.loop-asked-preserved
loop-asked-preserved g c =
    let turn = rw c.in-Answered.is at c.in_ok-serve_line.ensures.turn in (
      served_more _ _ _ _ _ _ _ _ _ _ _ _ _ _ c.loop-asked.invariant.0 turn.2 turn.3 turn.4,
      λ sent. c.in_ok-serve_line.ensures.sent (c.loop-asked.invariant.1 sent),
    )

pub returns-clause-read : goal.returns-clause-read
returns-clause-read g c = λ is.
    let all : c.loop-asked.asked ≡ ASKS = omega arith in
    served_all_asked _ _ _ _ _ _ _ _ _ _ _ c.loop-asked.invariant.0 all
