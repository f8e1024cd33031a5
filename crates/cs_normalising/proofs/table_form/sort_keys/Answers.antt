use Rattle.std.proofs.Common.{List, ℕ, map, sym, ap, subst, ◌∙◌}
use Rattle.std.specs.Map.{keys_of}
use Rattle.cs_order.specs.Groups.{HasTwins, IsDistinctOrder}
use Rattle.cs_normalising.specs.Steps.Lent.{entries_at, AreBeside, IsKeptOf}
use Rattle.cs_normal.specs.keyed.Prepared.{Entries, kept, prepared}
use Rattle.cs_normalising.specs.Lent.{nth_entry}
use Rattle.cs_normalising.proofs.AsTheyStand.{ordered_beside}
use Rattle.cs_normalising.proofs.Faults.{none_twice, null_fault, sorted_rises}
use Rattle.cs_normalising.proofs.KeyOrder.{moved, ordered}
use Rattle.cs_normalising.proofs.NormalLaws.{distinct_on}
use Rattle.cs_normalising.proofs.TableForms.{prepared_all}
use Rattle.cs_normalising.proofs.table_form.sort_keys.Goals as goal

pub returns-in-None-clause-fault : goal.returns-in-None-clause-fault
returns-in-None-clause-fault c =
    let es = prepared c.args.marks.now c.args.changes.now in
    let twins : HasTwins (keys_of es) = rw (← c.requires.keys) (rw c.in-None.is at c.in_ok-found.ensures) in
    none_twice c.args.marks.now c.args.changes.now (λ distinct. c.orders.ensures.twins (keys_of es) twins distinct)

pub returns-in-Some-clause-fault : goal.returns-in-Some-clause-fault
returns-in-Some-clause-fault c =
    let es = prepared c.args.marks.now c.args.changes.now in
    let is : IsDistinctOrder (keys_of es) c.in-Some.field-0.items = rw (← c.requires.keys) (rw c.in-Some.is at c.in_ok-found.ensures) in
    null_fault c.args.marks.now c.args.changes.now (sym c.requires.whole ∙ c.if-not-whole.true) is.apart

pub returns-in-Some-2-clause-beside : goal.returns-in-Some-2-clause-beside
returns-in-Some-2-clause-beside c =
    let is : IsDistinctOrder c.args.keys.now c.in-Some.field-0.items = rw c.in-Some.is at c.in_ok-found.ensures in
    subst (λ (order : List ℕ). AreBeside c.args.marks.now c.args.keys.now order c.args.changes.now) (sym c.of_places.ensures) (ordered_beside c.args.marks.now c.args.changes.now c.args.keys.now c.requires.keys (sym c.requires.whole ∙ c.if-not-whole.false) c.in-Some.field-0.items is.in_order)

pub returns-in-Some-2-clause-kept : goal.returns-in-Some-2-clause-kept
returns-in-Some-2-clause-kept c =
    let marks = c.args.marks.now in
    let changes = c.args.changes.now in
    let es = prepared marks changes in
    let order = c.in-Some.field-0.items in
    let is : IsDistinctOrder (keys_of es) order = rw (← c.requires.keys) (rw c.in-Some.is at c.in_ok-found.ensures) in
    let fs = map (nth_entry es) order in
    let whole = sym c.requires.whole ∙ c.if-not-whole.false in
    let same = moved es order is.in_order in
    let form : IsKeptOf marks changes (kept (entries_at marks changes order)) = record {
      whole = whole;
      entries = fs;
      moved = same;
      rising = sorted_rises fs (ordered es order (c.orders.ensures.sorts (keys_of es) order is.in_order)) (distinct_on es fs same is.apart);
      left = ap (λ (gs : Entries). kept (map (nth_entry gs) order)) (sym (prepared_all marks changes whole));
    } in
    subst (λ (places : List ℕ). IsKeptOf marks changes (kept (entries_at marks changes places))) (sym c.of_places.ensures) form
