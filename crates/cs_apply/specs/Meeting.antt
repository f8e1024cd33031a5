-- A change that is alone at its place, as it meets what the store has there.
use Rattle.std.specs.Prelude.{◌≡◌, None, Some}
use Rattle.cs_change.specs.Action.{action, after}
use Rattle.cs_change.specs.declared.change.Change.{Change}
use Rattle.cs_conflict.specs.Conflict.{kind}
use Rattle.cs_apply.specs.Slots.{standing}
use Rattle.cs_apply.specs.declared.slots.Slot.{Slot}

-- the slot as the store has its place
abbrev pub blank : Slot → Slot
blank slot = record { table = slot.table; keyed = slot.keyed; left = None }

-- the change has no conflict with what the store has there, and the slot holds what it leaves
abbrev pub IsMadeBy : Change → Slot → Type 0
IsMadeBy change next =
    (kind (action change) next.keyed.1 ≡ None) × (after (action change) next.keyed.1 ≡ Some (standing next))
