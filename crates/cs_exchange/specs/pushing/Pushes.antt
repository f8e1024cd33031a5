-- A push that is made, given again, and ended.
use Rattle.std.specs.Prelude.{◌≡◌, ◌+◌, ◌<◌, List, [], length, Some, None, IsSome}
use Rattle.cs_store.specs.declared.log.entry.TheConstants.{MAX_CHANGESET}
use Rattle.cs_normal.specs.Normal.{normal_spelling}
use Rattle.cs_normal.specs.State.{AreSame}
use Rattle.cs_normal.specs.declared.normal.TableChanges.{TableChanges}
use Rattle.cs_pending.specs.outgoing.Outgoing.{IsPendingOf}
use Rattle.cs_pending.specs.View.{View, middle}
use Rattle.cs_pending.specs.position.Shows.{ShowsAt, base, flown}
use Rattle.cs_pending.specs.declared.position.position.Position.{Position}
use Rattle.cs_pending.specs.declared.position.position.TheConstants.{LAST_NUMBER}
use Rattle.cs_exchange.specs.declared.pushing.fault.PushFault.{PushFault}
use Rattle.cs_exchange.specs.declared.pushing.fault.PushFault.TheVariants.{Memory, Nothing, InFlight, Device, Spent, TooLarge}
use Rattle.cs_store.specs.Contents.{Contents}
use Rattle.cs_value.specs.declared.catalog.TableDef.{TableDef}
use Rattle.cs_wire.specs.Requests.{Asked, AsksPush, asked_by_owned}
use Rattle.cs_wire.specs.declared.request.RequestBuf.{RequestBuf}

-- ---- a push is made

-- these changes are under way under the next number, and nothing is pending
abbrev pub pushed : Position → List TableChanges → Position
pushed position changes = record position { number = position.number + 1; flight = Some changes; pending = 0 }

-- the same rows, and nothing pending
abbrev pub grounded : View → View
grounded view = record { tables = view.tables; pending = λ name key. None }

-- what asks the hub to take these changes as the push of a replica at this position
abbrev pub request_of : Position → List TableChanges → Asked
request_of position changes =
    AsksPush (record { origin = position.id; number = position.number; base = position.version }) (normal_spelling changes)

-- nothing is pending
abbrev pub HasNothing : List TableDef → View → Type 0
HasNothing tables view = IsPendingOf tables view.pending []

-- something was pending and no push was under way; the changes that were pending are under way, the rows stay, and so do the log's
pub record IsPushMade (tables : List TableDef) (position : Position) (before : View) (new : Contents) (changes : List TableChanges) : Type 0 where
  pub something : HasNothing tables before → ⊥
  pub none_under_way : position.flight ≡ None
  pub number : position.number < LAST_NUMBER
  pub pending : IsPendingOf tables before.pending changes
  pub shows : ShowsAt tables new (pushed position changes) (grounded before)
  pub log_rows : AreSame (base position.flight before) (base (Some changes) (grounded before))

-- contents after a push is made
abbrev pub IsPushMadeIn : List TableDef → Position → Contents → Contents → Type 0
IsPushMadeIn tables position old new =
    (before : View) → ShowsAt tables old position before
    → (changes : List TableChanges) × IsPushMade tables position before new changes

-- the position after a push is made, and its request
abbrev pub IsPushOf : Position → Position → RequestBuf → Type 0
IsPushOf old new request =
    (changes : List TableChanges) × (new ≡ pushed old changes) × (asked_by_owned request ≡ request_of new changes)

-- what is pending has more bytes than a push may have
abbrev pub IsTooLarge : List TableDef → View → Type 0
IsTooLarge tables view =
    (changes : List TableChanges) × IsPendingOf tables view.pending changes × (MAX_CHANGESET < length (normal_spelling changes))

-- why no push is made: of the faults that hold the first in this order, Nothing, InFlight, Spent, TooLarge; Memory and Device
-- may come before any
abbrev pub IsPushFault : PushFault → List TableDef → Position → View → Type 0
IsPushFault Memory tables position view = Unit {0}
IsPushFault Nothing tables position view = HasNothing tables view
IsPushFault InFlight tables position view = (HasNothing tables view → ⊥) × IsSome position.flight
IsPushFault Device tables position view = Unit {0}
IsPushFault Spent tables position view =
    (HasNothing tables view → ⊥) × (position.flight ≡ None) × (position.number ≡ LAST_NUMBER)
IsPushFault TooLarge tables position view =
    (HasNothing tables view → ⊥) × (position.flight ≡ None) × (position.number < LAST_NUMBER) × IsTooLarge tables view

-- ---- a push is given again

-- why it isn't
abbrev pub IsResendFault : PushFault → Position → Type 0
IsResendFault Memory position = Unit {0}
IsResendFault Nothing position = position.flight ≡ None
IsResendFault InFlight position = ⊥
IsResendFault Device position = ⊥
IsResendFault Spent position = ⊥
IsResendFault TooLarge position = MAX_CHANGESET < length (normal_spelling (flown position.flight))

-- ---- a push is ended

-- one entry of the log further, and none is under way
abbrev pub confirmed : Position → Position
confirmed position = record position { version = position.version + 1; flight = None }

-- contents after that: the view stays, and the log's rows are those before what is pending
abbrev pub IsConfirmedIn : List TableDef → Position → Contents → Contents → Type 0
IsConfirmedIn tables position old new =
    (before : View) → ShowsAt tables old position before
    → ShowsAt tables new (confirmed position) before × AreSame (middle before) (base None before)
