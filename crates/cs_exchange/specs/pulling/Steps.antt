-- What is known on the way through a list of entries: no definition that a public clause cites.
use Rattle.std.specs.Prelude.{◌≡◌, ℕ, List, Result, Ok, Err}
use Rattle.cs_value.specs.declared.catalog.TableDef.{TableDef}
use Rattle.cs_store.specs.log.Log.{catalog_after}
use Rattle.cs_store.specs.declared.log.entry.LogEntry.{LogEntry}
use Rattle.cs_store.specs.Contents.{Contents}
use Rattle.cs_conflict.specs.declared.clash.Clash.{Clash}
use Rattle.cs_conflict.specs.declared.wish.Wish.{Wish}
use Rattle.cs_pending.specs.View.{View}
use Rattle.cs_pending.specs.declared.position.position.Position.{Position}
use Rattle.cs_wire.specs.Entries.{ToldEntry}
use Rattle.cs_exchange.specs.pulling.Pulls.{IsBad, IsPulledIn, StopsPull}
use Rattle.cs_exchange.specs.pulling.Told.{IsReadAs}
use Rattle.cs_exchange.specs.declared.taking.fault.TakeFault.{TakeFault}
use Rattle.cs_exchange.specs.declared.taking.fault.TakeFault.TheVariants as take
use Rattle.cs_exchange.specs.declared.pulling.fault.AnswerFault.{AnswerFault}
use Rattle.cs_exchange.specs.declared.pulling.fault.AnswerFault.TheVariants as list
use Rattle.cs_exchange.specs.declared.pulling.fault.PullFault.{PullFault}
use Rattle.cs_exchange.specs.declared.pulling.fault.PullFault.TheVariants.{Memory, Behind, Gap, BadEntry, Stopped, Device}
use Rattle.cs_exchange.specs.declared.pulling.listing.Pulled.{Pulled}
use Rattle.cs_exchange.specs.declared.pulling.listing.Pulled.TheVariants as told

module _ {P : Type 0} (picks : P → Clash → Wish → P → Type 0) where
  -- contents in which the told entry was pulled
  abbrev pub IsToldPulled : List TableDef → Position → ToldEntry → P → P → Contents → Contents → Type 0
  IsToldPulled tables position told p q old new =
      (entry : LogEntry) × IsReadAs tables told entry × IsPulledIn picks tables position entry p q old new

  -- why the told entry isn't
  abbrev pub IsToldFault : List TableDef → Position → ToldEntry → View → P → P → PullFault → Type 0
  IsToldFault tables position told view p q Memory = Unit {0}
  IsToldFault tables position told view p q Behind = ⊥
  IsToldFault tables position told view p q Gap = ⊥
  IsToldFault tables position told view p q BadEntry =
      ((entry : LogEntry) → IsReadAs tables told entry → IsBad tables position entry view) × (q ≡ p)
  IsToldFault tables position told view p q (Stopped conflict) =
      (entry : LogEntry) × IsReadAs tables told entry × StopsPull picks tables position entry view p conflict q
  IsToldFault tables position told view p q Device = Unit {0}

-- the catalog that the told entry leaves, whatever it is read as
abbrev pub IsWideBy : List TableDef → ToldEntry → List TableDef → Type 0
IsWideBy tables told others = (entry : LogEntry) → IsReadAs tables told entry → others ≡ catalog_after tables entry.body

-- how a list ends at a fault of one entry, behind so many
abbrev pub EndsAt : PullFault → ℕ → Result Pulled AnswerFault → Type 0
EndsAt Memory count result = result ≡ Err (list.Memory count)
EndsAt Behind count result = result ≡ Ok (told.Taken count)
EndsAt Gap count result = result ≡ Ok (told.Taken count)
EndsAt BadEntry count result = result ≡ Err (list.BadEntry count)
EndsAt (Stopped conflict) count result = result ≡ Ok (told.Stopped count)
EndsAt Device count result = result ≡ Err (list.Device count)

-- how changes that were told as one end at a fault of theirs
abbrev pub MergeEndsAt : TakeFault → Result Pulled AnswerFault → Type 0
MergeEndsAt take.Memory result = result ≡ Err (list.Memory 0)
MergeEndsAt take.BadEntry result = result ≡ Err (list.BadEntry 0)
MergeEndsAt (take.Stopped conflict) result = result ≡ Ok (told.Stopped 0)
MergeEndsAt take.Device result = result ≡ Err (list.Device 0)
