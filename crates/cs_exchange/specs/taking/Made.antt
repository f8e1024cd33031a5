-- What a change leaves of a row or none.
use Rattle.std.specs.Prelude.{◌≡◌, Some}
use Rattle.std.proofs.Props.{props}
use Rattle.cs_value.specs.Key.{Place}
use Rattle.cs_change.specs.Action.{action, after}
use Rattle.cs_change.specs.declared.change.Change.{Change}

-- the change is defined there, and leaves this
abbrev pub IsMade : Change → Place → Place → Type 0
IsMade change base theirs = after (action change) base ≡ Some theirs

pub IsMade-prop : (change : Change) (base theirs : Place) → IsProp (IsMade change base theirs)
IsMade-prop change base theirs = hlevel props
