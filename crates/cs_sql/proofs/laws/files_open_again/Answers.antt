use Rattle.std.proofs.Common.{◌≡◌, inr, sym, subst, ◌∙◌}
use Rattle.std.proofs.Math.Logic.{∥∥₁_elim}
use Rattle.sqlite_trees.specs.Props.{Trees-set}
use Rattle.cs_sql.specs.schema.Schemas.{store_over}
use Rattle.cs_sql.specs.Keeping.{IsHeldIn}
use Rattle.cs_sql.proofs.OneSchema.{shows_store}
use Rattle.cs_sql.proofs.laws.files_open_again.Goals as goal

pub returns : goal.returns
returns c image held found left it =
    let trees : it.0.trees ≡ left.0 = ∥∥₁_elim left.1 (Trees-set _ _) (it.1.holds left.0) in
    let same = shows_store left.0 it.0 left.2.kept.sound it.1.sound trees in
    c.one_is_held.ensures (store_over left.0) found held (subst (λ db. IsHeldIn db found) same it.2) (inr (inr (left.2.log, (left.2.kept.kept, left.2.log_is), left.3)))
