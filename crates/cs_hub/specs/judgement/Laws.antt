-- The laws of pushes and of new columns: there is an answer to each, and one.
use Rattle.std.specs.Prelude.{◌≡◌, ℕ, Result}
use Rattle.cs_value.specs.Catalog.{AreTables}
use Rattle.cs_store.specs.log.Log.{IsLog}
use Rattle.cs_store.specs.log.Stored.{AreChangesOf, IsEntryOf}
use Rattle.cs_hub.specs.judgement.Hub.{HubState, judging, synced}
use Rattle.cs_hub.specs.judgement.Pushes.{Push, Pushes}
use Rattle.cs_hub.specs.judgement.Widens.{CanGrow, WidenAsked, Widens, entry_of_widen}
use Rattle.cs_hub.specs.declared.judgement.fault.HubFault.{HubFault}
use Rattle.cs_hub.specs.declared.judgement.push.Pushed.{Pushed}

-- a push has one answer, and leaves one hub
abbrev pub OneAnswer : Type 0
OneAnswer =
    (limit : ℕ) (old new last : HubState) (push : Push) (one other : Result Pushed HubFault)
    → Pushes limit old push one new
    → Pushes limit old push other last
    → (one ≡ other) × (new ≡ last)

-- a state that a hub can be in
pub record IsOfHub (hub : HubState) : Type 0 where
  pub tables : AreTables hub.opening
  pub log : IsLog hub.opening hub.log

-- a push has an answer
abbrev pub PushHasAnswer : Type 0
PushHasAnswer =
    (limit : ℕ) (old : HubState) (push : Push)
    → IsOfHub old
    → AreChangesOf (judging old push.head.base) push.changes
    → (answer : Result Pushed HubFault) × (new : HubState) × Pushes limit old push answer new

-- new columns have one answer, and leave one hub
abbrev pub OneWidenAnswer : Type 0
OneWidenAnswer =
    (limit : ℕ) (old new last : HubState) (asked : WidenAsked) (one other : Result Pushed HubFault)
    → Widens limit old asked one new
    → Widens limit old asked other last
    → (one ≡ other) × (new ≡ last)

-- and have an answer
abbrev pub WidenHasAnswer : Type 0
WidenHasAnswer =
    (limit : ℕ) (old : HubState) (asked : WidenAsked)
    → (answer : Result Pushed HubFault) × (new : HubState) × Widens limit old asked answer new

-- the hub's log stays one
abbrev pub WidensKeepLog : Type 0
WidensKeepLog =
    (limit : ℕ) (old new : HubState) (asked : WidenAsked) (answer : Result Pushed HubFault)
    → IsOfHub old
    → Widens limit old asked answer new
    → IsOfHub new

-- what was answered is answered again, and then the hub stays as it is: a repeat counts once
abbrev pub WidenedAgain : Type 0
WidenedAgain =
    (limit : ℕ) (old new : HubState) (asked : WidenAsked) (answer : Result Pushed HubFault)
    → Widens limit old asked answer new
    → Widens limit new asked answer new

-- what new columns become is an entry of the newest tables
abbrev pub WidenIsEntry : Type 0
WidenIsEntry =
    (old : HubState) (asked : WidenAsked)
    → IsOfHub old
    → CanGrow old asked
    → IsEntryOf (synced old) (entry_of_widen asked)
