-- What is known on the way to a push: no definition that a public clause cites.
use Rattle.std.specs.Prelude.{◌≡◌, ◌≢◌, ◌≤◌, ◌<◌, List, length, None, IsSome}
use Rattle.cs_store.specs.declared.log.entry.TheConstants.{MAX_CHANGESET}
use Rattle.cs_normal.specs.Normal.{normal_spelling}
use Rattle.cs_normal.specs.declared.normal.TableChanges.{TableChanges}
use Rattle.cs_pending.specs.outgoing.Outgoing.{IsPendingOf}
use Rattle.cs_pending.specs.View.{View}
use Rattle.cs_pending.specs.declared.position.position.Position.{Position}
use Rattle.cs_pending.specs.declared.position.position.TheConstants.{LAST_NUMBER}
use Rattle.cs_exchange.specs.pushing.Pushes.{HasNothing, IsTooLarge}
use Rattle.cs_exchange.specs.declared.pushing.fault.PushFault.{PushFault}
use Rattle.cs_exchange.specs.declared.pushing.fault.PushFault.TheVariants.{Memory, Nothing, InFlight, Device, Spent, TooLarge}
use Rattle.cs_value.specs.declared.catalog.TableDef.{TableDef}

-- as far as the position tells, a push may be made
pub record IsReady (position : Position) : Type 0 where
  pub some : position.pending ≢ 0
  pub none : position.flight ≡ None
  pub number : position.number < LAST_NUMBER

-- why none may
abbrev pub IsEarlyFault : PushFault → Position → Type 0
IsEarlyFault Memory position = ⊥
IsEarlyFault Nothing position = position.pending ≡ 0
IsEarlyFault InFlight position = (position.pending ≢ 0) × IsSome position.flight
IsEarlyFault Device position = ⊥
IsEarlyFault Spent position = (position.pending ≢ 0) × (position.flight ≡ None) × (LAST_NUMBER ≤ position.number)
IsEarlyFault TooLarge position = ⊥

-- what is pending, as changes that a push may have
abbrev pub IsSent : List TableDef → View → List TableChanges → Type 0
IsSent tables view changes = IsPendingOf tables view.pending changes × (length (normal_spelling changes) ≤ MAX_CHANGESET)

-- why there are none such
abbrev pub IsUnsent : PushFault → List TableDef → View → Type 0
IsUnsent Memory tables view = Unit {0}
IsUnsent Nothing tables view = HasNothing tables view
IsUnsent InFlight tables view = ⊥
IsUnsent Device tables view = Unit {0}
IsUnsent Spent tables view = ⊥
IsUnsent TooLarge tables view = IsTooLarge tables view
