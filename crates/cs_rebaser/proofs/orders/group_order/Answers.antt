use Rattle.std.proofs.Common.{◌≡◌, ◌∙◌, List, ℕ, ap, map}
use Rattle.cs_change.specs.Spelling.{marks_of}
use Rattle.cs_rebaser.specs.Rebased.{entry_key}
use Rattle.cs_rebaser.specs.Steps.{AreInOrder, entry_keys}
use Rattle.cs_rebaser.proofs.Indexes.{order_of_group}
use Rattle.cs_rebaser.proofs.orders.group_order.Goals as goal

pub returns-in-Some : goal.returns-in-Some
returns-in-Some c =
    let group = c.args.group.now in
    let marks_are : c.in_ok-marks.marks ≡ marks_of group.marks = c.in_ok-marks.ensures ∙ ap (λ (bs : List ℕ). marks_of bs) c.as_slice.ensures in
    let given : AreInOrder (map (entry_key c.as_slice-2.result.now) c.as_slice-3.result.now) c.in-Some.order.items = rw c.in-Some.is at c.in_ok-found.ensures in
    let ordered : AreInOrder (entry_keys group) c.in-Some.order.items = rw (c.as_slice-2.ensures, marks_are, c.as_slice-3.ensures) at given in
    order_of_group group _ marks_are ordered
