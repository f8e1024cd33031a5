-- How a replica takes an entry of the hub's log: its own push is confirmed, and another's is merged.
-- `picks p clash wish q` is an answer: at p the picker is shown the clash, wishes, and is left as q.
use Rattle.std.specs.Prelude.{◌≡◌, ◌⊎◌, ◌<◌, ◌-◌, ◌^◌, ℕ, List, Option, Some}
use Rattle.std.specs.FinMap.{len}
use Rattle.cs_value.specs.declared.catalog.TableDef.{TableDef}
use Rattle.cs_normal.specs.State.{IsDefinedOn}
use Rattle.cs_normal.specs.declared.normal.TableChanges.{TableChanges}
use Rattle.cs_store.specs.log.Entry.{MayWiden, entry_changes}
use Rattle.cs_store.specs.log.Log.{catalog_after}
use Rattle.cs_store.specs.declared.log.body.Body.{Body}
use Rattle.cs_store.specs.declared.log.body.Body.TheVariants.{Changes, Widen}
use Rattle.cs_store.specs.declared.log.entry.LogEntry.{LogEntry}
use Rattle.cs_store.specs.Contents.{Contents}
use Rattle.cs_conflict.specs.declared.clash.Clash.{Clash}
use Rattle.cs_conflict.specs.declared.wish.Wish.{Wish}
use Rattle.cs_pending.specs.View.{View}
use Rattle.cs_pending.specs.position.Shows.{ShowsAt, base}
use Rattle.cs_pending.specs.declared.position.position.Position.{Position}
use Rattle.cs_exchange.specs.taking.Takes.{IsTaken, IsWidened, StopsTaking, taken}
use Rattle.cs_exchange.specs.declared.pulling.fault.PullFault.{PullFault}
use Rattle.cs_exchange.specs.declared.pulling.fault.PullFault.TheVariants.{Memory, Behind, Gap, BadEntry, Stopped, Device}

-- the entry is the push that is under way: one of changes
pub record IsOwn (position : Position) (entry : LogEntry) : Type 0 where
  pub changes : List TableChanges
  pub body : entry.body ≡ Changes changes
  pub under_way : position.flight ≡ Some changes
  pub from_here : entry.origin ≡ position.id
  pub last : entry.number ≡ position.number

-- no version is behind this one, or the entry is another's and isn't defined on the log's rows, or may not widen its table so
abbrev pub IsBad : List TableDef → Position → LogEntry → View → Type 0
IsBad tables position entry view =
    (position.version ≡ 2 ^ 64 - 1)
    ⊎ ((IsOwn position entry → ⊥)
    × (IsDefinedOn tables (entry_changes entry) (base position.flight view) × MayWiden tables entry.body → ⊥))

module _ {P : Type 0} (picks : P → Clash → Wish → P → Type 0) where
  -- what another's entry does is taken: its changes are merged, or the table gets its columns and nobody is asked
  abbrev pub IsPulledBody : List TableDef → Option (List TableChanges) → Body → View → View → P → P → Type 0
  IsPulledBody tables flight (Changes changes) before after p q = IsTaken picks tables flight changes before after p q
  IsPulledBody tables flight (Widen table width) before after p q = IsWidened tables flight table width before after × (q ≡ p)

  -- contents in which that was taken at a position; they are by the catalog that it leaves
  abbrev pub IsTakenBody : List TableDef → Position → Body → P → P → Contents → Contents → Type 0
  IsTakenBody tables position body p q old new =
      (before : View) → ShowsAt tables old position before
      → (after : View) × ShowsAt (catalog_after tables body) new (taken position (len new.pending)) after
      × IsPulledBody tables position.flight body before after p q

  -- an entry is pulled, where there is a version behind this one. Of the own push the rows stay, and what is pending, and nobody is
  -- asked. Another's is taken
  abbrev pub PullsOne : List TableDef → Position → LogEntry → View → P → View → P → Type 0
  PullsOne tables position entry before p after q =
      (position.version < 2 ^ 64 - 1)
      × ((IsOwn position entry × (after ≡ before) × (q ≡ p))
      ⊎ ((IsOwn position entry → ⊥) × IsPulledBody tables position.flight entry.body before after p q))

  -- contents in which it was pulled at a position; they are by the catalog that it leaves
  abbrev pub IsPulledIn : List TableDef → Position → LogEntry → P → P → Contents → Contents → Type 0
  IsPulledIn tables position entry p q old new =
      (before : View) → ShowsAt tables old position before
      → (after : View) × ShowsAt (catalog_after tables entry.body) new (taken position (len new.pending)) after
      × PullsOne tables position entry before p after q

  -- contents in which the entry that is told at an index was: it is the one at the version
  abbrev pub IsPulledAt : List TableDef → Position → ℕ → LogEntry → P → P → Contents → Contents → Type 0
  IsPulledAt tables position index entry p q old new = (index ≡ position.version) × IsPulledIn tables position entry p q old new

  -- the picker stops at this conflict of another's entry
  pub record StopsPull (tables : List TableDef) (position : Position) (entry : LogEntry) (view : View) (p : P) (conflict : _) (q : P) : Type 0 where
    pub room : position.version < 2 ^ 64 - 1
    pub others : IsOwn position entry → ⊥
    pub stops : StopsTaking picks tables position.flight (entry_changes entry) view p conflict q

  -- why the entry that is told at an index isn't pulled; nobody was asked but where the picker stops
  abbrev pub IsPullFault : List TableDef → Position → ℕ → LogEntry → View → P → P → PullFault → Type 0
  IsPullFault tables position index entry view p q Memory = Unit {0}
  IsPullFault tables position index entry view p q Behind = (index < position.version) × (q ≡ p)
  IsPullFault tables position index entry view p q Gap = (position.version < index) × (q ≡ p)
  IsPullFault tables position index entry view p q BadEntry =
      (index ≡ position.version) × IsBad tables position entry view × (q ≡ p)
  IsPullFault tables position index entry view p q (Stopped conflict) =
      (index ≡ position.version) × StopsPull tables position entry view p conflict q
  IsPullFault tables position index entry view p q Device = Unit {0}
