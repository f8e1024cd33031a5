-- The laws of entries that are pulled.
use Rattle.std.specs.Prelude.{◌≡◌, ◌≢◌, ◌⊎◌, ◌<◌, ◌^◌, ℕ, List, None, Result, Ok, Err, Contains}
use Rattle.std.specs.List.{AllByRecursion}
use Rattle.cs_varint.specs.Bytes.{AreBytes}
use Rattle.cs_value.specs.Catalog.{AreTables}
use Rattle.cs_value.specs.declared.catalog.TableDef.{TableDef}
use Rattle.cs_normal.specs.Normal.{IsNormalChangeset}
use Rattle.cs_normal.specs.State.{AreSame}
use Rattle.cs_normal.specs.declared.normal.TableChanges.{TableChanges}
use Rattle.cs_store.specs.log.Entry.{entry_changes}
use Rattle.cs_store.specs.log.Log.{IsMade, catalog_after}
use Rattle.cs_store.specs.declared.log.entry.LogEntry.{LogEntry}
use Rattle.cs_store.specs.Contents.{Contents}
use Rattle.cs_conflict.specs.declared.clash.Clash.{Clash}
use Rattle.cs_conflict.specs.declared.wish.Wish.{Wish}
use Rattle.cs_pending.specs.View.{View}
use Rattle.cs_pending.specs.position.Shows.{ShowsAt, ShowsSomeAt, base}
use Rattle.cs_pending.specs.declared.position.position.Position.{Position}
use Rattle.cs_exchange.specs.taking.Laws.{AnswersLawfully, PicksOnce}
use Rattle.cs_exchange.specs.taking.Takes.{IsTaken, IsTakenTo}
use Rattle.cs_wire.specs.Entries.{ToldEntry}
use Rattle.cs_exchange.specs.pulling.Listed.{PullsList}
use Rattle.cs_exchange.specs.pulling.Merged.{IsMergeFault, TakesTold}
use Rattle.cs_exchange.specs.pulling.Pulls.{IsPullFault, IsPulledIn, PullsOne}
use Rattle.cs_exchange.specs.pulling.Told.{IsFormOf, IsReadAs}
use Rattle.cs_exchange.specs.declared.pulling.fault.AnswerFault.{AnswerFault}
use Rattle.cs_exchange.specs.declared.pulling.fault.AnswerFault.TheVariants as list
use Rattle.cs_exchange.specs.declared.pulling.fault.PullFault.{PullFault}
use Rattle.cs_exchange.specs.declared.pulling.fault.PullFault.TheVariants.{Memory, Device}
use Rattle.cs_exchange.specs.declared.pulling.listing.Pulled.{Pulled}

-- bytes are read as one changeset
abbrev pub OneForm : Type 0
OneForm =
    (tables : List TableDef) (bytes : List ℕ) (some other : List TableChanges)
    → AreTables tables
    → IsFormOf tables bytes some
    → IsFormOf tables bytes other
    → some ≡ other

-- and they are read as one, or can't be
abbrev pub FormOrNot : Type 0
FormOrNot =
    (tables : List TableDef) (bytes : List ℕ)
    → AreTables tables
    → AreBytes bytes
    → ((changes : List TableChanges) × IsFormOf tables bytes changes) ⊎ ((changes : List TableChanges) → IsFormOf tables bytes changes → ⊥)

-- an answer's entry is read as one entry of the log
abbrev pub OneRead : Type 0
OneRead =
    (tables : List TableDef) (told : ToldEntry) (some other : LogEntry)
    → AreTables tables
    → IsReadAs tables told some
    → IsReadAs tables told other
    → some ≡ other

-- and it can be read, or can't
abbrev pub ReadOrNot : Type 0
ReadOrNot =
    (tables : List TableDef) (told : ToldEntry)
    → AreTables tables
    → AreBytes told.body
    → ((entry : LogEntry) × IsReadAs tables told entry) ⊎ ((entry : LogEntry) → IsReadAs tables told entry → ⊥)

-- an entry that is pulled leads from the log's rows to those that it leaves of them
abbrev pub PulledLeads : {P : Type 0} → (P → Clash → Wish → P → Type 0) → Type 0
PulledLeads {P} picks =
    (tables : List TableDef) (contents : Contents) (position : Position) (entry : LogEntry) (before after : View) (p q : P)
    → AreTables tables
    → ShowsAt tables contents position before
    → PullsOne picks tables position entry before p after q
    → IsMade tables entry.body (base position.flight before) (base None after)

-- a fault that says something of the entry
abbrev pub IsOfEntry : PullFault → Type 0
IsOfEntry fault = (fault ≢ Memory) × (fault ≢ Device)

-- a result that says something of the list
abbrev pub IsOfList : Result Pulled AnswerFault → Type 0
IsOfList (Ok done) = Unit {0}
IsOfList (Err (list.Memory count)) = ⊥
IsOfList (Err (list.Device count)) = ⊥
IsOfList (Err (list.BadEntry count)) = Unit {0}

module _ {P : Type 0} (picks : P → Clash → Wish → P → Type 0) where
  -- by a picker that answers each clash once, an entry that is pulled from what one store shows leaves one state of the picker. It
  -- leaves one view at the places of the tables that the catalog then has
  abbrev pub OnePull : Type 0
  OnePull =
      (tables : List TableDef) (contents : Contents) (position : Position) (entry : LogEntry) (before seen some other : View) (p q r : P)
      → AreTables tables
      → IsNormalChangeset (entry_changes entry)
      → PicksOnce picks
      → ShowsAt tables contents position before
      → ShowsAt tables contents position seen
      → PullsOne picks tables position entry before p some q
      → PullsOne picks tables position entry seen p other r
      → AreSame some.tables other.tables
      × ((table : TableDef) (key : List ℕ) → Contains (catalog_after tables entry.body) table → other.pending table.name key ≡ some.pending table.name key)
      × (q ≡ r)

  -- and so a store that shows a replica holds one thing after it
  abbrev pub OnePullIn : Type 0
  OnePullIn =
      (tables : List TableDef) (position : Position) (entry : LogEntry) (old some other : Contents) (p q r : P)
      → AreTables tables
      → IsNormalChangeset (entry_changes entry)
      → PicksOnce picks
      → ShowsSomeAt tables position old
      → IsPulledIn picks tables position entry p q old some
      → IsPulledIn picks tables position entry p r old other
      → (some ≡ other) × (q ≡ r)

  -- by such a picker an entry that is told at an index has one fault
  abbrev pub OnePullFault : Type 0
  OnePullFault =
      (tables : List TableDef) (position : Position) (index : ℕ) (entry : LogEntry) (view : View) (some other : PullFault) (p q r : P)
      → PicksOnce picks
      → IsOfEntry some
      → IsOfEntry other
      → IsPullFault picks tables position index entry view p q some
      → IsPullFault picks tables position index entry view p r other
      → (some ≡ other) × (q ≡ r)

  -- and one that is pulled, at the position's version, has none
  abbrev pub NoPullFaultWherePulled : Type 0
  NoPullFaultWherePulled =
      (tables : List TableDef) (position : Position) (entry : LogEntry) (before after : View) (fault : PullFault) (p q r : P)
      → PicksOnce picks
      → IsOfEntry fault
      → PullsOne picks tables position entry before p after q
      → IsPullFault picks tables position position.version entry before p r fault
      → ⊥

  -- there is one or the other: an entry that is told at an index is pulled, or it has a fault. Where it is pulled, there is a store that
  -- holds what is left, and the picker may be asked again
  abbrev pub PulledOrRefused : (P → Type 0) → Type 0
  PulledOrRefused is_ready =
      (tables : List TableDef) (old : Contents) (position : Position) (index : ℕ) (entry : LogEntry) (before : View) (p : P)
      → AreTables tables
      → IsNormalChangeset (entry_changes entry)
      → position.version < 2 ^ 64
      → ShowsAt tables old position before
      → AnswersLawfully picks is_ready
      → is_ready p
      → ((new : Contents) × (q : P) × (index ≡ position.version) × IsPulledIn picks tables position entry p q old new × is_ready q)
      ⊎ ((fault : PullFault) × (q : P) × IsOfEntry fault × IsPullFault picks tables position index entry before p q fault)

  -- by a picker that answers each clash once, entries that are told at once have one fault
  abbrev pub OneMergeFault : Type 0
  OneMergeFault =
      (tables : List TableDef) (position : Position) (first next : ℕ) (changes : List TableChanges) (view : View) (some other : PullFault) (p q r : P)
      → PicksOnce picks
      → IsOfEntry some
      → IsOfEntry other
      → IsMergeFault picks tables position first next changes view p q some
      → IsMergeFault picks tables position first next changes view p r other
      → (some ≡ other) × (q ≡ r)

  -- and those that are taken, from the position's version to one above it, have none
  abbrev pub NoMergeFaultWhereTaken : Type 0
  NoMergeFaultWhereTaken =
      (tables : List TableDef) (position : Position) (next : ℕ) (changes : List TableChanges) (before after : View) (fault : PullFault) (p q r : P)
      → PicksOnce picks
      → IsOfEntry fault
      → position.version < next
      → IsTaken picks tables position.flight changes before after p q
      → IsMergeFault picks tables position position.version next changes before p r fault
      → ⊥

  -- there is one or the other: they are taken, or they have a fault. Where they are taken, there is a store that holds what is left, and
  -- the picker may be asked again
  abbrev pub MergedOrRefused : (P → Type 0) → Type 0
  MergedOrRefused is_ready =
      (tables : List TableDef) (old : Contents) (position : Position) (first next : ℕ) (changes : List TableChanges) (before : View) (p : P)
      → AreTables tables
      → IsNormalChangeset changes
      → ShowsAt tables old position before
      → AnswersLawfully picks is_ready
      → is_ready p
      → ((new : Contents) × (q : P) × (first ≡ position.version) × (first < next) × IsTakenTo picks tables position next changes p q old new × is_ready q)
      ⊎ ((fault : PullFault) × (q : P) × IsOfEntry fault × IsMergeFault picks tables position first next changes before p q fault)

  -- by a picker that answers each clash once, bytes that are told to lead to a version have one result. They leave one position, one
  -- thing in the store, and one state of the picker, whichever view of the store is meant
  abbrev pub OneTold : Type 0
  OneTold =
      (tables : List TableDef) (next : ℕ) (bytes : List ℕ) (old new last : Contents) (position here there : Position) (before seen : View)
      (some other : Result Pulled AnswerFault) (p q r : P)
      → AreTables tables
      → PicksOnce picks
      → ShowsAt tables old position before
      → ShowsAt tables old position seen
      → IsOfList some
      → IsOfList other
      → TakesTold picks tables next bytes some position before p here new q
      → TakesTold picks tables next bytes other position seen p there last r
      → (some ≡ other) × (here ≡ there) × (new ≡ last) × (q ≡ r)

  -- and there is one: what is told to lead to a version above the position's has a result. There is a store that holds what is left
  abbrev pub ToldHasResult : (P → Type 0) → Type 0
  ToldHasResult is_ready =
      (tables : List TableDef) (next : ℕ) (bytes : List ℕ) (old : Contents) (position : Position) (before : View) (p : P)
      → AreTables tables
      → AreBytes bytes
      → position.version < next
      → ShowsAt tables old position before
      → AnswersLawfully picks is_ready
      → is_ready p
      → (result : Result Pulled AnswerFault) × (other : Position) × (new : Contents) × (q : P) × IsOfList result
      × TakesTold picks tables next bytes result position before p other new q

  -- by a picker that answers each clash once, a list has one result. It leaves one catalog, one position, one thing in the store, and
  -- one state of the picker, whichever view of the store is meant
  abbrev pub OneList : Type 0
  OneList =
      (tables wide its : List TableDef) (first : ℕ) (entries : List ToldEntry) (old new last : Contents) (position here there : Position) (before seen : View)
      (some other : Result Pulled AnswerFault) (p q r : P)
      → AreTables tables
      → PicksOnce picks
      → ShowsAt tables old position before
      → ShowsAt tables old position seen
      → IsOfList some
      → IsOfList other
      → PullsList picks first entries some tables position before p wide here new q
      → PullsList picks first entries other tables position seen p its there last r
      → (some ≡ other) × (wide ≡ its) × (here ≡ there) × (new ≡ last) × (q ≡ r)

  -- and there is one: a list of entries in bytes has a result, and there is a store that holds what is left
  abbrev pub ListHasResult : (P → Type 0) → Type 0
  ListHasResult is_ready =
      (tables : List TableDef) (first : ℕ) (entries : List ToldEntry) (old : Contents) (position : Position) (before : View) (p : P)
      → AreTables tables
      → AllByRecursion (λ (told : ToldEntry). AreBytes told.body) entries
      → position.version < 2 ^ 64
      → ShowsAt tables old position before
      → AnswersLawfully picks is_ready
      → is_ready p
      → (result : Result Pulled AnswerFault) × (others : List TableDef) × (other : Position) × (new : Contents) × (q : P) × IsOfList result
      × PullsList picks first entries result tables position before p others other new q
