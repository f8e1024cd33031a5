-- Stores that fail, and what tells it; and a request, which the hub alone answers (profile of this project).
use Rattle.std.specs.declared.alloc.Global.{Global}
use Rattle.std.specs.Prelude.{Vec, ◌≡◌, ◌⊎◌, ◌≤◌, ◌++◌, ℕ, List, [], ◌∷◌, Some, length, slice_get}
use Rattle.cs_hub.specs.Calls.{AnswersHub}
use Rattle.cs_exchange.specs.pulling.Listed.{IsDeviceFault}
use Rattle.cs_replica.specs.Holding as replica
use Rattle.cs_opening.specs.declared.fault.OpenFault.TheVariants as opening
use Rattle.cs_pending.specs.declared.fault.EditFault.TheVariants as edits
use Rattle.cs_exchange.specs.declared.pushing.fault.PushFault.TheVariants as pushes
use Rattle.cs_store.specs.Calls.{MoreFailures}
use Rattle.cs_store.specs.declared.store.RowStore.{Ghosts}
use Rattle.cs_wire.specs.Requests.{Asked, request_spelling}
use Rattle.cs_world.specs.Holding.{Holding}
use Rattle.cs_world.specs.declared.event.Event.{Event}
use Rattle.cs_world.specs.declared.event.Event.TheVariants.{Deliver}
use Rattle.cs_world.specs.declared.letter.Letter.{Letter}
use Rattle.cs_world.specs.declared.letter.Letter.TheVariants as letter
use Rattle.cs_world.specs.declared.outcome.Outcome.{Outcome}
use Rattle.cs_world.specs.declared.outcome.Outcome.TheVariants.{Memory, NotEdited, NotHeard, NotPushed, NotReloaded}

-- the outcome tells that the device of a replica's store failed
abbrev pub SaysDevice : Outcome → Type 0
SaysDevice (NotEdited fault) = fault ≡ edits.Device
SaysDevice (NotPushed fault) = fault ≡ pushes.Device
SaysDevice (NotHeard fault) = IsDeviceFault fault
SaysDevice (NotReloaded fault) = fault ≡ opening.Device
SaysDevice _ = ⊥

-- one of the outcomes does
abbrev pub SomeSaysDevice : List Outcome → Type 0
SomeSaysDevice [] = ⊥
SomeSaysDevice (outcome ∷ outcomes) = SaysDevice outcome ⊎ SomeSaysDevice outcomes

module _ {S : Type 0} (g : Ghosts S) where
  -- the count of failures of one of its stores rose
  abbrev pub HasFailed : Holding S → Holding S → Type 0
  HasFailed old new =
      MoreFailures (g.failed old.hub.store) (g.failed new.hub.store)
      ⊎ ((r : ℕ) × (one : replica.Holding S) × (other : replica.Holding S) × (slice_get old.replicas r ≡ Some one)
      × (slice_get new.replicas r ≡ Some other) × MoreFailures (g.failed one.store) (g.failed other.store))

  -- no count falls, and where a failed device is told one rose
  pub record CountsOn (told : Type 0) (old new : Holding S) : Type 0 where
    pub hub : g.failed old.hub.store ≤ g.failed new.hub.store
    pub count : length new.replicas ≡ length old.replicas
    pub replicas : (r : ℕ) (one other : replica.Holding S) → slice_get old.replicas r ≡ Some one → slice_get new.replicas r ≡ Some other
        → g.failed one.store ≤ g.failed other.store
    pub cause : told → HasFailed old new

  -- a request was answered by the hub, or memory was refused. The hub says that its device failed, and nobody else does
  abbrev pub IsServed : ℕ → Asked → (Vec ℕ Global → Letter) → Outcome → Holding S → Holding S → Type 0
  IsServed limit request reply outcome old new =
      (outcome ≡ Memory)
      ⊎ ((answer : Vec ℕ Global) × (new.letters ≡ old.letters ++ reply answer ∷ [])
      × AnswersHub g limit old.hub (request_spelling request) answer.items new.hub)

  -- so is each that reaches the hub, of a replica or of none
  abbrev pub AsksHub : ℕ → Event → Outcome → Holding S → Holding S → Type 0
  AsksHub limit (Deliver k wishes) outcome old new =
      ((r : ℕ) (request : Asked) → slice_get old.letters k ≡ Some (letter.Asks r request)
      → IsServed limit request (letter.Tells r) outcome old new)
      × ((request : Asked) → slice_get old.letters k ≡ Some (letter.Orders request)
      → IsServed limit request letter.Replies outcome old new)
  AsksHub limit event outcome old new = Unit {0}
