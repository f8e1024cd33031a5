use Rattle.std.proofs.Common.{[], arith}
use Rattle.std.proofs.lemmas.Result.{err_from_is_err_and}
use Rattle.sqlite.specs.Held.{state}
use Rattle.cs_sql.proofs.StatementsLemmas.Finding.{stays_unrun, stays_unchanged}
use Rattle.cs_sql.proofs.CauseLemmas.{probe_caused}
use Rattle.cs_sql.proofs.statements.streaming.probe.Goals as goal

pub returns-in_err-_empty-clause-same : goal.returns-in_err-_empty-clause-same
returns-in_err-_empty-clause-same g c clean =
    stays_unrun (state g.S.Store c.args.conn.now) (state g.S.Store c.prepare.new.self) [] [] c.in_err-_empty.field-0.0 (c.requires.settled (omega (arith, c.prepare.ensures.survives.clean))) (c.in_err-_empty.ensures.err clean [])

pub returns-clause-same : goal.returns-clause-same
returns-clause-same g c clean = stays_unchanged (state g.S.Store c.args.conn.now) (state g.S.Store c.prepare.new.self) (c.in_ok-_empty.ensures.ok clean).1

pub returns-in_err-_empty-clause-cause : goal.returns-in_err-_empty-clause-cause
returns-in_err-_empty-clause-cause g c clean =
    let p = err_from_is_err_and c.from_residual.result c.from_residual.ensures.1 in
    rw (p.1, p.2) (probe_caused (state g.S.Store c.args.conn.now) (state g.S.Store c.prepare.new.self) c.in_err-_empty.field-0.0 (c.in_err-_empty.ensures.err clean []))
