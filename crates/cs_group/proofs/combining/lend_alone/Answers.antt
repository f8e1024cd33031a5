use Rattle.std.proofs.Common.{[], ◌∷◌, inl, refl}
use Rattle.std.proofs.lemmas.Result.{err_from_is_err_and}
use Rattle.cs_group.proofs.Forms.{combined_of, unfit_told}
use Rattle.cs_group.proofs.combining.lend_alone.Goals as goal

pub returns-in_err-normalise_lent-clause-fault : goal.returns-in_err-normalise_lent-clause-fault
returns-in_err-normalise_lent-clause-fault c =
    let given = err_from_is_err_and c.from_residual-in_err-normalise_lent.result c.from_residual-in_err-normalise_lent.ensures.1 in
    rw (given.1, given.2) (unfit_told c.in_err-normalise_lent.field-0.0 (c.args.changeset.now ∷ []) c.in_ok-catalog.catalog (rw c.from_ref.ensures.value at c.in_ok-catalog.ensures.catalog) (rw c.from_ref.ensures.value at c.in_ok-catalog.ensures.shapes) (rw (← c.catalog.view_is) c.catalog.invariant) (inl c.in_err-normalise_lent.ensures.fault))

pub returns-clause-combined : goal.returns-clause-combined
returns-clause-combined c =
    combined_of (c.args.changeset.now ∷ []) c.in_ok-catalog.catalog (c.in_ok-normalise_lent.field-0 ∷ []) c.in_ok-normalise_lent.field-0 (rw c.from_ref.ensures.value at c.in_ok-catalog.ensures.catalog) (rw c.from_ref.ensures.value at c.in_ok-catalog.ensures.shapes) (rw (← c.catalog.view_is) c.catalog.invariant) (c.in_ok-normalise_lent.ensures.normal, tt) c.in_ok-normalise_lent.ensures.normal.normal c.in_ok-normalise_lent.ensures.normal.of_catalog (λ k d within key. refl)
