use Rattle.std.proofs.Common.{◌∙◌, ◌++◌, refl, sym, ap, List, ℕ}
use Rattle.std.specs.List.{flat_map}
use Rattle.cs_group.specs.Steps.Folding.{IsSpelling}
use Rattle.cs_group.specs.Steps.Gathering.{lent_changes}
use Rattle.cs_group.specs.Steps.Joining.{entry_left}
use Rattle.cs_group.proofs.Folds.{folded_holds}
use Rattle.cs_group.proofs.ReadOrders.{joined_read}
use Rattle.cs_group.proofs.Spelled.{normal_table}
use Rattle.cs_group.proofs.gathering.spell_read.Goals as goal

pub returns-in-Some-2 : goal.returns-in-Some-2
returns-in-Some-2 c = λ changesets is.
    let table = c.args.table.now in
    let order = c.in-Some.order in
    let entry = entry_left table.key_marks order.keys (lent_changes order.changes) in
    let joined = flat_map entry order.places in
    let header = c.in_ok-spell_header.field-0.items in
    let found = rw (is, c.in-Some.is) at c.in_ok-order.ensures.order in
    let rise = rw c.in-Some-2.is at c.in_ok-spelling.ensures.rise in
    let folded = rw (c.as_slice.ensures, c.in-Some-2.is) at c.in_ok-spelling.ensures.folded in
    let left = folded_holds _ entry (IsSpelling c.args.out header) (λ group old new so_far step is. step order.keys c.args.out header so_far is) folded c.new-begun.ensures in
    record {
      changes = joined;
      holds = joined_read table changesets order joined found c.order_read.ensures.text rise refl;
      spelled = c.in_ok-finish-in-Some-2.ensures c.args.out header joined left ∙ ap (λ (s : List ℕ). c.args.out ++ s) (rw c.in_ok-spell_header.ensures (sym (normal_table table joined)));
    }
