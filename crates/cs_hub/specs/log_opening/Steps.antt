-- What the code has found on its way: no definition that a public clause cites.
use Rattle.std.specs.Prelude.{◌≡◌, ◌≢◌, ◌<◌, ℕ, Bool, true, false, List, [], Option, Some, None}
use Rattle.cs_value.specs.declared.catalog.TableDef.{TableDef}
use Rattle.cs_store.specs.Contents.{Contents, log_count, nothing, stored_pending}
use Rattle.cs_hub.specs.log_store.Shows.{ShowsLog}
use Rattle.cs_hub.specs.log_opening.Opens.{IsHubStore}

-- where there was nothing, there is a hub without entries
abbrev pub IsLaidOut : List TableDef → Contents → Contents → Type 0
IsLaidOut opening old new = old ≡ nothing → ShowsLog opening new []

-- whether there was nothing, which is laid out; anything else is as it was
abbrev pub IsOpenedFresh : List TableDef → Contents → Contents → Bool → Type 0
IsOpenedFresh opening old new true = (old ≡ nothing) × ShowsLog opening new []
IsOpenedFresh opening old new false = (old ≢ nothing) × (new ≡ old)

-- no change of the table with this number is pending
abbrev pub PendsNone : Contents → ℕ → Type 0
PendsNone contents number = (key : List ℕ) → stored_pending contents number key ≡ None

-- the same of each table with a number below this one
abbrev pub PendsNoneBelow : Contents → ℕ → Type 0
PendsNoneBelow contents end = (number : ℕ) → number < end → PendsNone contents number

-- how many entries contents have that are what a hub's store is, or that they aren't
abbrev pub IsCounted : List TableDef → Contents → Option ℕ → Type 0
IsCounted opening contents None = IsHubStore opening contents → ⊥
IsCounted opening contents (Some count) = IsHubStore opening contents × (count ≡ log_count contents)
