use Rattle.std.proofs.Common.{List, ◌≡◌, ◌<◌, ◌-◌, ◌∙◌, ℕ, ap, arith, drop, length, min, subst, sym, rules, tests}
use Rattle.std.proofs.lemmas.List.{length-drop}
use Rattle.cs_normal.specs.declared.normal.TableChanges.{TableChanges}
use Rattle.cs_value.specs.declared.catalog.TableDef.{TableDef}
use Rattle.cs_hub.specs.catching.Catches.{Catches}
use Rattle.cs_hub.specs.catching.Runs.{IsRunOf}
use Rattle.cs_hub.specs.declared.catching.caught.Caught.TheVariants.{Alone, Merged}
use Rattle.cs_hub.proofs.CatchingLemmas.Taken.{run_is_short}
use Rattle.cs_hub.proofs.LogReadingLemmas.Caught.{merged_told, own_told}
use Rattle.cs_hub.proofs.LogStoreLemmas.Versions.{tables_shown}
use Rattle.cs_hub.proofs.log_reading.catching.catch_at.Goals as goal

pub returns-then-is_empty-clause-told : goal.returns-then-is_empty-clause-told
returns-then-is_empty-clause-told g c = λ honest log shows.
    let entries = drop c.args.first log in
    let left : length entries ≡ c.args.catalogs.now.newest - c.args.first = length-drop c.args.first log ∙ ap (λ (n : ℕ). n - c.args.first) (sym shows.1) in
    let least : c.min-count.result ≡ min c.args.limit (length entries) = c.min-count.ensures ∙ ap (λ (n : ℕ). min c.args.limit (n - c.args.first)) c.newest.ensures ∙ ap (λ (n : ℕ). min c.args.limit n) (sym left) in
    let read = c.in-Ok.ensures.found honest log shows (omega (arith, c.min-count.ensures, c.newest.ensures, c.requires, shows.1)) in
    let none : length c.in-Ok.others.changesets.items ≡ 0 = search (rules, tests, c.if-is_empty.ensures) in
    subst (λ (tables : List TableDef). Catches tables c.args.asker c.args.limit entries Alone) (c.at-catalog.ensures ∙ tables_shown c.catalog_by_widens.ensures c.args.catalogs.now log shows.2 c.args.first)
    (own_told c.at-catalog.result.now c.args.asker c.args.limit c.min-count.result entries c.in-Ok.others.changesets.items least read c.if-count-gt0.true none)

pub returns-clause-short : goal.returns-clause-short
returns-clause-short g c =
    run_is_short c.one_join.ensures c.at-catalog.result.now c.as_slice.result.now c.in_ok-count.count c.in_ok-count.changes c.tables-tables.ensures.tables c.in_ok-count.ensures

pub returns-clause-told : goal.returns-clause-told
returns-clause-told g c = λ honest log shows.
    let entries = drop c.args.first log in
    let left : length entries ≡ c.args.catalogs.now.newest - c.args.first = length-drop c.args.first log ∙ ap (λ (n : ℕ). n - c.args.first) (sym shows.1) in
    let least : c.min-count.result ≡ min c.args.limit (length entries) = c.min-count.ensures ∙ ap (λ (n : ℕ). min c.args.limit (n - c.args.first)) c.newest.ensures ∙ ap (λ (n : ℕ). min c.args.limit n) (sym left) in
    let read = c.in-Ok.ensures.found honest log shows (omega (arith, c.min-count.ensures, c.newest.ensures, c.requires, shows.1)) in
    let run = subst (λ (list : List (List TableChanges)). IsRunOf c.at-catalog.result.now list c.in_ok-count.count c.in_ok-count.changes) c.as_slice.ensures.value c.in_ok-count.ensures in
    subst (λ (tables : List TableDef). Catches tables c.args.asker c.args.limit entries (Merged c.in_ok-count.count c.in_ok-count.changes)) (c.at-catalog.ensures ∙ tables_shown c.catalog_by_widens.ensures c.args.catalogs.now log shows.2 c.args.first)
    (merged_told c.at-catalog.result.now c.args.asker c.args.limit c.min-count.result entries c.in-Ok.others.changesets.items least read c.in_ok-count.count c.in_ok-count.changes
    (λ some. elim c.else-count-gt0.branch [
      | goal.else-count-gt0-via-then-count-gt0+else-is_empty w ↦ (let some_read : 0 < length c.in-Ok.others.changesets.items = search (rules, tests, w.if-is_empty.ensures) in some_read)
      | goal.else-count-gt0-via-else-count-gt0 w ↦ omega (arith, some, w.if-count-gt0.false)
    ])
    run)
