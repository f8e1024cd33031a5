use Rattle.std.proofs.Common.{◌≡◌, arith}
use Rattle.cs_lines.specs.Lines.{ended}
use Rattle.cs_lines.specs.declared.serve.TheConstants.{ASKS}
use Rattle.cs_node_lines.proofs.FollowingLemmas.Followed.{following_end, following_failed, following_first, following_on, following_without_end}
use Rattle.cs_node_lines.proofs.following.follow.follow.Goals as goal

pub loop-asked-init : goal.loop-asked-init
loop-asked-init g c =
    (following_first g.S.RowStore c.args.catalog.now c.lines_taken.ensures.none (ended (g.R.Read.remaining c.args.reader.now)) (g.W.Write.contents c.args.writer.now) c.args.replica.now, λ sent. sent)

pub loop-asked-preserved : goal.loop-asked-preserved
loop-asked-preserved g c = let told = rw c.in-Ok-true.field-0-test at c.in-Ok-true.ensures.told in (
  following_on g.S.RowStore c.args.catalog.now c.loop-asked._asked (g.R.LineInput.failed c.follow_next.new.reader) (g.W.LineOutput.failed c.follow_next.new.writer)
      (ended (g.R.Read.remaining c.args.reader.now)) (ended (g.R.Read.remaining c.loop-asked.reader)) (ended (g.R.Read.remaining c.follow_next.new.reader))
      (g.W.Write.contents c.args.writer.now) (g.W.Write.contents c.loop-asked.writer) (g.W.Write.contents c.follow_next.new.writer)
      c.args.replica.now c.loop-asked.replica c.follow_next.new.replica c.in_order.ensures c.loop-asked.invariant.0 told,
  λ sent. c.in-Ok-true.ensures.sent (c.loop-asked.invariant.1 sent),
)

pub returns-in-Ok-false-clause-told : goal.returns-in-Ok-false-clause-told
returns-in-Ok-false-clause-told g c =
    following_end g.S.RowStore c.args.catalog.now c.lines_taken.ensures.all c.loop-asked._asked (g.R.LineInput.failed c.follow_next.new.reader) (g.W.LineOutput.failed c.follow_next.new.writer)
    (ended (g.R.Read.remaining c.args.reader.now)) (ended (g.R.Read.remaining c.loop-asked.reader)) (ended (g.R.Read.remaining c.follow_next.new.reader))
    (g.W.Write.contents c.args.writer.now) (g.W.Write.contents c.loop-asked.writer) (g.W.Write.contents c.follow_next.new.writer)
    c.args.replica.now c.loop-asked.replica c.follow_next.new.replica c.in_order.ensures c.loop-asked.invariant.0 (rw c.in-Ok-false.field-0-test at c.in-Ok-false.ensures.told)

pub returns-in-Ok-false-clause-sent : goal.returns-in-Ok-false-clause-sent
returns-in-Ok-false-clause-sent g c = λ sent. c.in-Ok-false.ensures.sent (c.loop-asked.invariant.1 sent)

pub returns-in-Err-clause-told : goal.returns-in-Err-clause-told
returns-in-Err-clause-told g c =
    following_failed g.S.RowStore c.args.catalog.now c.loop-asked._asked c.in-Err.fault (g.R.LineInput.failed c.follow_next.new.reader) (g.W.LineOutput.failed c.follow_next.new.writer)
    (ended (g.R.Read.remaining c.args.reader.now)) (ended (g.R.Read.remaining c.loop-asked.reader)) (ended (g.R.Read.remaining c.follow_next.new.reader))
    (g.W.Write.contents c.args.writer.now) (g.W.Write.contents c.loop-asked.writer) (g.W.Write.contents c.follow_next.new.writer)
    c.args.replica.now c.loop-asked.replica c.follow_next.new.replica c.in_order.ensures c.loop-asked.invariant.0 c.in-Err.ensures.told

pub returns-clause-told : goal.returns-clause-told
returns-clause-told g c =
    let all : c.loop-asked._asked ≡ ASKS = omega arith in
    following_without_end g.S.RowStore c.args.catalog.now c.loop-asked._asked (g.R.LineInput.failed c.loop-asked.reader) (g.W.LineOutput.failed c.loop-asked.writer) (ended (g.R.Read.remaining c.args.reader.now)) (ended (g.R.Read.remaining c.loop-asked.reader))
    (g.W.Write.contents c.args.writer.now) (g.W.Write.contents c.loop-asked.writer) c.args.replica.now c.loop-asked.replica all c.loop-asked.invariant.0
