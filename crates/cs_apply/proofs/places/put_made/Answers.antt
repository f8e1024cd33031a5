use Rattle.std.proofs.Common.{◌≡◌, Option, Some, None, false, refl, sym, ap, ◌∙◌}
use Rattle.std.specs.Option.{is_some}
use Rattle.cs_value.specs.Key.{Place}
use Rattle.cs_change.specs.Action.{action}
use Rattle.cs_conflict.specs.Conflict.{kind}
use Rattle.cs_apply.specs.Slots.{left_or, slot_at}
use Rattle.cs_apply.specs.declared.slots.Slot.{Slot}
use Rattle.cs_apply.proofs.places.put_made.Goals as goal

is_none : {X : Type 0} (o : Option X) → false ≡ is_some o → o ≡ None
is_none None e = refl
is_none (Some x) e = absurd (let f = e in cc)

abbrev with_left : Slot → Option Place → Slot
with_left slot left = record { table = slot.table; keyed = slot.keyed; left = left }

pub returns : goal.returns
returns c =
    let slot = slot_at c.args.stored.now in
    let change = action c.args.change.now in
    let first = c.as_ref.ensures.value in
    let again = c.as_ref-2.ensures.value in
    let quiet : kind change slot.keyed.1 ≡ None = sym (rw first at c.kind_of.ensures) ∙ is_none c.kind_of.result c.if-is_some.ensures in
    let end = (c.kind_tells.ensures change slot.keyed.1).0 quiet in
    let left = rw again at c.in_ok-left.ensures ∙ (sym (c.made_as_replaced.ensures change slot.keyed.1 quiet) ∙ end.1) in record {
      next = with_left slot c.in_ok-left.left;
      blank_is = refl;
      by = (quiet, end.1 ∙ ap (λ l. Some (left_or slot.keyed.1 l)) (sym left));
      edit = c.in_ok-put_left.ensures;
    }
