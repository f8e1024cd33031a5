-- How a replica takes entries of the hub's log that were taken together. `picks p clash wish q` is an answer: at p
-- the picker is shown the clash, wishes, and is left as q.
use Rattle.std.specs.Prelude.{◌≡◌, ◌⊎◌, ◌+◌, ◌<◌, ◌≤◌, ℕ, List, Result, Ok, Err}
use Rattle.cs_value.specs.declared.catalog.TableDef.{TableDef}
use Rattle.cs_conflict.specs.declared.clash.Clash.{Clash}
use Rattle.cs_conflict.specs.declared.conflict.Conflict.{Conflict}
use Rattle.cs_conflict.specs.declared.wish.Wish.{Wish}
use Rattle.cs_normal.specs.State.{IsDefinedOn}
use Rattle.cs_normal.specs.declared.normal.TableChanges.{TableChanges}
use Rattle.cs_pending.specs.View.{View}
use Rattle.cs_pending.specs.position.Shows.{ShowsAt, base}
use Rattle.cs_pending.specs.declared.position.position.Position.{Position}
use Rattle.cs_store.specs.Contents.{Contents}
use Rattle.cs_exchange.specs.taking.Takes.{IsTaken, IsTakenTo, StopsTaking, brought}
use Rattle.cs_exchange.specs.pulling.Told.{IsFormOf}
use Rattle.cs_exchange.specs.declared.pulling.fault.AnswerFault.{AnswerFault}
use Rattle.cs_exchange.specs.declared.pulling.fault.AnswerFault.TheVariants as fault
use Rattle.cs_exchange.specs.declared.pulling.listing.Pulled.{Pulled}
use Rattle.cs_exchange.specs.declared.pulling.listing.Pulled.TheVariants.{Taken, Stopped as StoppedAt}
use Rattle.cs_exchange.specs.declared.pulling.fault.PullFault.{PullFault}
use Rattle.cs_exchange.specs.declared.pulling.fault.PullFault.TheVariants.{Memory, Behind, Gap, BadEntry, Stopped, Device}

-- bytes spell a changeset with a normal form that is defined on the log's rows
abbrev pub IsGoodMerged : List TableDef → Position → List ℕ → View → Type 0
IsGoodMerged tables position bytes view =
    (changes : List TableChanges) × IsFormOf tables bytes changes × IsDefinedOn tables changes (base position.flight view)

-- it leads to no version above the position's, or isn't defined on the log's rows
abbrev pub IsBadMerged : List TableDef → Position → ℕ → List TableChanges → View → Type 0
IsBadMerged tables position next changes view =
    (next ≤ position.version) ⊎ (IsDefinedOn tables changes (base position.flight view) → ⊥)

-- why what is told from an index on, and leads to a version, isn't taken; nobody was asked but where the picker stops
abbrev pub IsMergeFault : {P : Type 0} → (P → Clash → Wish → P → Type 0) → List TableDef → Position → ℕ → ℕ → List TableChanges → View → P → P → PullFault → Type 0
IsMergeFault picks tables position first next changes view p q Memory = Unit {0}
IsMergeFault picks tables position first next changes view p q Behind = (first < position.version) × (q ≡ p)
IsMergeFault picks tables position first next changes view p q Gap = (position.version < first) × (q ≡ p)
IsMergeFault picks tables position first next changes view p q BadEntry =
    (first ≡ position.version) × IsBadMerged tables position next changes view × (q ≡ p)
IsMergeFault picks tables position first next changes view p q (Stopped conflict) =
    (first ≡ position.version) × (position.version < next) × StopsTaking picks tables position.flight changes view p conflict q
IsMergeFault picks tables position first next changes view p q Device = Unit {0}

module _ {P : Type 0} (picks : P → Clash → Wish → P → Type 0) (tables : List TableDef) (next : ℕ) (bytes : List ℕ) where
  -- the store shows the replica where it was
  abbrev pub Stays : Position → View → Position → Contents → Type 0
  Stays position before other new = (other ≡ position) × ShowsAt tables new position before

  -- what became of bytes that are told to lead to a version, above the position's. Their changeset was taken, or the picker stopped. Or
  -- they spell none that is defined on the log's rows, and nobody was asked
  abbrev pub TakesTold : Result Pulled AnswerFault → Position → View → P → Position → Contents → P → Type 0
  TakesTold (Ok (Taken count)) position before p other new q =
      (position.version + count ≡ next) × (changes : List TableChanges) × (after : View)
      × IsFormOf tables bytes changes
      × (other ≡ brought position next other.pending)
      × ShowsAt tables new other after
      × IsTaken picks tables position.flight changes before after p q
  TakesTold (Ok (StoppedAt count)) position before p other new q =
      (count ≡ 0) × (changes : List TableChanges) × (conflict : Conflict)
      × IsFormOf tables bytes changes
      × StopsTaking picks tables position.flight changes before p conflict q
      × Stays position before other new
  TakesTold (Err (fault.Memory count)) position before p other new q = (count ≡ 0) × Stays position before other new
  TakesTold (Err (fault.Device count)) position before p other new q = (count ≡ 0) × Stays position before other new
  TakesTold (Err (fault.BadEntry count)) position before p other new q =
      (count ≡ 0) × (IsGoodMerged tables position bytes before → ⊥) × (q ≡ p) × Stays position before other new

  -- contents in which it was taken
  abbrev pub IsToldTaken : Position → P → Contents → Contents → Type 0
  IsToldTaken position p old left =
      (changes : List TableChanges) × (q : P) × IsFormOf tables bytes changes × IsTakenTo picks tables position next changes p q old left

  -- contents that its commit would have left
  abbrev pub IsToldNext : Position → Contents → Contents → Type 0
  IsToldNext position now left = (p : P) × IsToldTaken position p now left
