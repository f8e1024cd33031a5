-- What was made of two rows is their net change.
use Rattle.std.proofs.Common.{◌≡◌, Bool, List, refl, Option, Some, None}
use Rattle.std.specs.Prelude.{slice_get}
use Rattle.cs_value.specs.Key.{Place, FitsPlace}
use Rattle.cs_value.specs.declared.value.Value.{Value}
use Rattle.cs_change.specs.Action.{Action, Inserts, Deletes, Updates, action_any, after_any}
use Rattle.cs_change.specs.Laws.{NetTakes}
use Rattle.cs_change.specs.Listed.{listed}
use Rattle.cs_change.specs.Net.{net}
use Rattle.cs_change.specs.netting.Combine.{with_flag_any}

-- the first of a net change, if there is one
pub first_net : (flag : Bool) (net : Option Action) → action_any (slice_get (listed (with_flag_any flag net)) 0) ≡ net
first_net flag None = refl
first_net flag (Some (Inserts row)) = refl
first_net flag (Some (Deletes row)) = refl
first_net flag (Some (Updates old new)) = refl

-- what a net change takes, with the table's marks read out
pub takes_at : NetTakes → (marks read : List Bool) (key : List Value) (base end : Place) (change : Option Action) → read ≡ marks → FitsPlace marks key base → FitsPlace marks key end → change ≡ net read base end → after_any change base ≡ Some end
takes_at law marks read key base end change same fb fe is =
    let takes = (law marks key base end fb fe).1 in
    rw (is, same) takes
