use Rattle.std.proofs.Common.{◌∷◌, [], subst, arith}
use Rattle.std.specs.Prelude.{IfSome, Option}
use Rattle.cs_pending.specs.rows.Steps.{AreSpelled}
use Rattle.cs_pending.proofs.RowsLemmas.Spelled.{spelled_more}
use Rattle.cs_pending.proofs.rows.reading.rows_in.Goals as goal

pub loop-stored-preserved : goal.loop-stored-preserved
loop-stored-preserved c =
    spelled_more c.args.columns c.args.listed.now c.loop-stored.stored-index c.stored-item.result c.loop-stored.rows.items c.push.new.self.items c.in-Some.row
    (omega (arith, c.loop-stored-test.true)) c.stored-item.is c.in_ok-push-in-Some.ensures.items c.loop-stored.invariant
    (subst (λ (o : Option _). IfSome o (λ row. AreSpelled c.args.columns (c.stored-item.result ∷ []) (row ∷ []))) c.in-Some.is c.in_ok-row.ensures.found)
