use Rattle.std.proofs.Common.{List, ℕ, refl, subst, sym, ◌∙◌}
use Rattle.cs_normal.specs.keyed.Prepared.{kept}
use Rattle.cs_normalising.specs.Steps.Lent.{entries_at, AreBeside, IsKeptOf}
use Rattle.cs_normalising.proofs.AsTheyStand.{stand_beside, stand_kept}
use Rattle.cs_normalising.proofs.table_form.order_keys.Goals as goal

pub returns-then-rise-clause-beside : goal.returns-then-rise-clause-beside
returns-then-rise-clause-beside c =
    subst (λ (order : List ℕ). AreBeside c.args.marks.now c.in_ok-keys.keys order c.args.changes.now) (sym c.as_they_stand.ensures) (stand_beside c.args.marks.now c.args.changes.now c.in_ok-keys.keys c.in_ok-keys.ensures.keys (sym c.in_ok-keys.ensures.whole ∙ c.if-whole.true))

pub returns-then-rise-clause-kept : goal.returns-then-rise-clause-kept
returns-then-rise-clause-kept c =
    let marks = c.args.marks.now in
    let changes = c.args.changes.now in
    subst (λ (order : List ℕ). IsKeptOf marks changes (kept (entries_at marks changes order))) (sym c.as_they_stand.ensures) (stand_kept marks changes c.in_ok-keys.keys c.in_ok-keys.ensures.keys (sym c.in_ok-keys.ensures.whole ∙ c.if-whole.true) (c.if-rise.ensures.0 refl))
