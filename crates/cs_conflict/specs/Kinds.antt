-- That a change has this kind has one proof at most.
use Rattle.std.specs.Prelude.{◌≡◌, Some}
use Rattle.std.proofs.Props.{props}
use Rattle.cs_value.specs.Key.{Place}
use Rattle.cs_change.specs.Action.{Action}
use Rattle.cs_conflict.specs.Conflict.{kind}
use Rattle.cs_conflict.specs.declared.kind.Kind.{Kind}

pub kind-prop : (change : Action) (place : Place) (k : Kind) → IsProp (kind change place ≡ Some k)
kind-prop change place k = hlevel props
