-- How a replica takes the entries of an answer, one after another.
use Rattle.std.specs.Prelude.{◌≡◌, ◌+◌, ℕ, zero, suc, List, slice_get, Some, Result, Ok, Err}
use Rattle.cs_value.specs.declared.catalog.TableDef.{TableDef}
use Rattle.cs_store.specs.log.Log.{catalog_after}
use Rattle.cs_store.specs.declared.log.entry.LogEntry.{LogEntry}
use Rattle.cs_store.specs.Contents.{Contents}
use Rattle.cs_conflict.specs.declared.clash.Clash.{Clash}
use Rattle.cs_conflict.specs.declared.conflict.Conflict.{Conflict}
use Rattle.cs_conflict.specs.declared.wish.Wish.{Wish}
use Rattle.cs_pending.specs.View.{View}
use Rattle.cs_pending.specs.position.Shows.{ShowsAt}
use Rattle.cs_pending.specs.declared.position.position.Position.{Position}
use Rattle.cs_exchange.specs.taking.Takes.{taken}
use Rattle.cs_wire.specs.Entries.{ToldEntry}
use Rattle.cs_exchange.specs.pulling.Pulls.{IsBad, PullsOne, StopsPull}
use Rattle.cs_exchange.specs.pulling.Told.{IsReadAs}
use Rattle.cs_exchange.specs.declared.pulling.fault.AnswerFault.{AnswerFault}
use Rattle.cs_exchange.specs.declared.pulling.fault.AnswerFault.TheVariants as fault
use Rattle.cs_exchange.specs.declared.pulling.listing.Pulled.{Pulled}
use Rattle.cs_exchange.specs.declared.pulling.listing.Pulled.TheVariants.{Taken, Stopped}

-- the entry that a list tells at a version, where its first is the one at `first`
pub record IsToldAt (first : ℕ) (entries : List ToldEntry) (version : ℕ) (told : ToldEntry) : Type 0 where
  pub at : ℕ
  pub place : version ≡ first + at
  pub there : slice_get entries at ≡ Some told

-- how many entries were taken
abbrev pub count_of : Result Pulled AnswerFault → ℕ
count_of (Ok (Taken count)) = count
count_of (Ok (Stopped count)) = count
count_of (Err (fault.Memory count)) = count
count_of (Err (fault.Device count)) = count
count_of (Err (fault.BadEntry count)) = count

module _ {P : Type 0} (picks : P → Clash → Wish → P → Type 0) (first : ℕ) (entries : List ToldEntry) where
  -- so many entries are pulled one after another, each the one that the list tells at the version then. What each leaves a store
  -- shows behind it, by the catalog that it leaves. `others` is the catalog behind them all
  unfoldable pub PullsMany : ℕ → List TableDef → Position → View → P → List TableDef → Position → View → P → Type 0
  PullsMany zero tables position view p others other end q = (others ≡ tables) × (other ≡ position) × (end ≡ view) × (q ≡ p)
  PullsMany (suc count) tables position view p others other end q =
      (told : ToldEntry) × (entry : LogEntry) × (pending : ℕ) × (left : Contents) × (next : View) × (between : P)
      × IsToldAt first entries position.version told × IsReadAs tables told entry
      × PullsOne picks tables position entry view p next between
      × ShowsAt (catalog_after tables entry.body) left (taken position pending) next
      × PullsMany count (catalog_after tables entry.body) (taken position pending) next between others other end q

  -- behind them the list tells no entry at the version
  abbrev pub EndsThere : Position → Type 0
  EndsThere position = (told : ToldEntry) → IsToldAt first entries position.version told → ⊥

  -- or the picker stops at the one that it tells
  pub record EndsStopped (tables : List TableDef) (position : Position) (view : View) (p q : P) : Type 0 where
    pub told : ToldEntry
    pub entry : LogEntry
    pub conflict : Conflict
    pub there : IsToldAt first entries position.version told
    pub read : IsReadAs tables told entry
    pub stops : StopsPull picks tables position entry view p conflict q

  -- or that one can't be read, or is bad
  pub record EndsBad (tables : List TableDef) (position : Position) (view : View) : Type 0 where
    pub told : ToldEntry
    pub there : IsToldAt first entries position.version told
    pub bad : (entry : LogEntry) → IsReadAs tables told entry → IsBad tables position entry view

  -- how it ended behind those that were pulled
  abbrev pub Ends : Result Pulled AnswerFault → List TableDef → Position → View → P → P → Type 0
  Ends (Ok (Taken count)) tables position view p q = EndsThere position × (q ≡ p)
  Ends (Ok (Stopped count)) tables position view p q = EndsStopped tables position view p q
  Ends (Err (fault.Memory count)) tables position view p q = Unit {0}
  Ends (Err (fault.Device count)) tables position view p q = Unit {0}
  Ends (Err (fault.BadEntry count)) tables position view p q = EndsBad tables position view × (q ≡ p)

  -- what became of a list: so many of its entries were pulled, the store shows the replica behind them, and there it ended
  abbrev pub PullsList : Result Pulled AnswerFault → List TableDef → Position → View → P → List TableDef → Position → Contents → P → Type 0
  PullsList result tables position before p others other new q =
      (end : View) × (between : P) × PullsMany (count_of result) tables position before p others other end between
      × ShowsAt others new other end × Ends result others other end between q

  -- contents in which one entry more was pulled
  abbrev pub IsOneMoreIn : List TableDef → Position → Contents → P → Contents → Type 0
  IsOneMoreIn tables position now p left =
      (view : View) → ShowsAt tables now position view
      → (others : List TableDef) × (other : Position) × (end : View) × (q : P)
      × PullsMany 1 tables position view p others other end q × ShowsAt others left other end

  -- contents that one commit more would have left
  abbrev pub IsNextOf : List TableDef → Position → Contents → Contents → Type 0
  IsNextOf tables position now left = (p : P) × IsOneMoreIn tables position now p left

  -- contents that stood after one of the commits: some of the entries were pulled, but for the count of what is pending
  abbrev pub IsAmong : List TableDef → Position → Contents → P → Contents → Type 0
  IsAmong tables position old p left =
      (before : View) → ShowsAt tables old position before
      → (count : ℕ) × (others : List TableDef) × (other : Position) × (end : View) × (q : P)
      × PullsMany (suc count) tables position before p others other end q × ShowsAt others left other end

-- all was taken that the list tells from the version on
abbrev pub TakesAll : Result Pulled AnswerFault → Type 0
TakesAll (Ok (Taken count)) = Unit {0}
TakesAll (Ok (Stopped count)) = ⊥
TakesAll (Err fault) = ⊥

-- a failed device is told
abbrev pub IsDeviceFault : AnswerFault → Type 0
IsDeviceFault (fault.Memory count) = ⊥
IsDeviceFault (fault.Device count) = Unit {0}
IsDeviceFault (fault.BadEntry count) = ⊥

abbrev pub TellsDevice : Result Pulled AnswerFault → Type 0
TellsDevice (Ok done) = ⊥
TellsDevice (Err fault) = IsDeviceFault fault
