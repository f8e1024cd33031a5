use Rattle.std.proofs.Common.{◌≡◌, refl, sym, subst, ap, ◌∙◌}
use Rattle.cs_conflict.specs.declared.conflict.Conflict.{Conflict}
use Rattle.cs_rebaser.specs.DiamondOfTables.{local_beside}
use Rattle.cs_operations_tests.specs.Answers.{over}
use Rattle.cs_operations_tests.proofs.Allowed.{over_lawful}
use Rattle.cs_operations_tests.proofs.lawful.apply_over_local.Goals as goal

-- the closure looks into the same catalog and changeset at each call
pub apply_lawfully-requires-clause-lawful : goal.apply_lawfully-requires-clause-lawful
apply_lawfully-requires-clause-lawful g c = λ base mine applied.
    over_lawful _ _ base mine applied _ (λ f. (f.1 ≡ c.args.catalog) × (f.2 ≡ c.args.sides.now.local))
    (λ f conflict answer h same called. (called.called.met.0.1 ∙ same.0, called.called.met.0.2 ∙ same.1))
    (λ f h conflict answer same called goes. called.called.met.1 goes
    ∙ (ap (λ (x : Conflict). over (local_beside f.1.now f.2.now x) x.kind) called.shows
    ∙ (ap (λ b. over (local_beside b.now f.2.now conflict) conflict.kind) same.0
    ∙ ap (λ b. over (local_beside c.args.catalog.now b.now conflict) conflict.kind) same.1)))
    _ (refl, refl)
