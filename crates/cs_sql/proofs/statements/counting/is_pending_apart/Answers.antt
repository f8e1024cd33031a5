use Rattle.std.proofs.Common.{arith}
use Rattle.std.proofs.lemmas.Result.{err_from_is_err_and}
use Rattle.sqlite.specs.Held.{state}
use Rattle.cs_sql.proofs.StatementsLemmas.Adopting.{pending_apart}
use Rattle.cs_sql.proofs.StatementsLemmas.Granting.{ids_granted}
use Rattle.cs_sql.proofs.StatementsLemmas.Meanings.{ids_are}
use Rattle.cs_sql.specs.declared.parts.Part.TheVariants as part
use Rattle.cs_sql.proofs.statements.counting.is_pending_apart.Goals as goal

pub read_ids-requires-clause-plain : goal.read_ids-requires-clause-plain
read_ids-requires-clause-plain g c clean = (ids_are part.Pending (state g.S.Store c.args.conn.now).now.schema (c.requires.ours clean)).2

pub returns-clause-apart : goal.returns-clause-apart
returns-clause-apart g c clean =
    pending_apart (state g.S.Store c.args.conn.now) (state g.S.Store c.read_ids.new.conn) c.in_ok-ids.ids (c.requires.ours (omega (arith, clean, c.read_ids.ensures.survives.clean))) (c.in_ok-ids.ensures.shown clean)

pub returns-in_err-ids-clause-cause : goal.returns-in_err-ids-clause-cause
returns-in_err-ids-clause-cause g c clean =
    let p = err_from_is_err_and c.from_residual.result c.from_residual.ensures.1 in
    rw (p.1, p.2) (c.in_err-ids.ensures.cause clean (ids_granted part.Pending (state g.S.Store c.args.conn.now).now (c.requires.ours (omega (arith, clean, c.read_ids.ensures.survives.clean)))))
