-- The laws of taking another's entry: one input has one answer, and each has one. `picks p clash wish q` is an answer of a picker: at
-- p it is shown the clash, wishes, and is left as q.
use Rattle.std.specs.Prelude.{◌≡◌, ◌⊎◌, ℕ, List, Option, None, Contains}
use Rattle.std.specs.FinMap.{len}
use Rattle.cs_value.specs.Catalog.{AreTables}
use Rattle.cs_value.specs.Key.{Place}
use Rattle.cs_value.specs.declared.catalog.TableDef.{TableDef}
use Rattle.cs_normal.specs.Normal.{IsNormalChangeset}
use Rattle.cs_normal.specs.State.{AreSame, IsDefinedOn}
use Rattle.cs_normal.specs.declared.normal.TableChanges.{TableChanges}
use Rattle.cs_store.specs.Contents.{Contents}
use Rattle.cs_conflict.specs.Wishes.{IsLawfulWish}
use Rattle.cs_conflict.specs.declared.clash.Clash.{Clash}
use Rattle.cs_conflict.specs.declared.conflict.Conflict.{Conflict}
use Rattle.cs_conflict.specs.declared.kind.Kind.{Kind}
use Rattle.cs_conflict.specs.declared.kind.Kind.TheVariants.{DataDiffers, NotFound, KeyConflict}
use Rattle.cs_conflict.specs.declared.wish.Wish.{Wish}
use Rattle.cs_conflict.specs.declared.wish.Wish.TheVariants.{Keep, Take}
use Rattle.cs_tasks.specs.Tasks.{Task}
use Rattle.cs_pending.specs.Shows.{IsSoundOf}
use Rattle.cs_pending.specs.View.{View}
use Rattle.cs_pending.specs.position.Shows.{ShowsAt, ShowsSomeAt, base}
use Rattle.cs_pending.specs.declared.position.position.Position.{Position}
use Rattle.cs_store.specs.log.Entry.{MayWiden}
use Rattle.cs_store.specs.declared.log.body.Body.TheVariants.{Widen}
use Rattle.cs_widening.specs.Widening.{widened, widened_tables}
use Rattle.cs_exchange.specs.taking.Takes.{IsClashOf, IsTaken, IsTakenTo, IsWidened, IsWidenedIn, StopsTaking}

-- a change, a row of the log and an own row have one clash
abbrev pub OneClash : Type 0
OneClash =
    (task : Task) (log own : Place) (some other : Clash)
    → IsClashOf task log own some
    → IsClashOf task log own other
    → some ≡ other

-- what shows one view at one position holds one thing; how many changes are pending it tells itself
abbrev pub OneContents : Type 0
OneContents =
    (tables : List TableDef) (position : Position) (some other : Contents) (view seen : View)
    → ShowsAt tables some (record position { pending = len some.pending }) view
    → ShowsAt tables other (record position { pending = len other.pending }) seen
    → AreSame view.tables seen.tables
    → ((table : TableDef) (key : List ℕ) → Contains tables table → seen.pending table.name key ≡ view.pending table.name key)
    → some ≡ other

-- what a store shows at one position has one state of the log's rows, and one of the own ones
abbrev pub OneLogRows : Type 0
OneLogRows =
    (tables : List TableDef) (contents : Contents) (position : Position) (view seen : View)
    → ShowsAt tables contents position view
    → ShowsAt tables contents position seen
    → AreSame (base position.flight view) (base position.flight seen) × AreSame view.tables seen.tables

-- what a store shows can be shown at another version, with nothing under way
abbrev pub NextIsShown : Type 0
NextIsShown =
    (tables : List TableDef) (old : Contents) (position : Position) (next : ℕ)
    → (new : Contents)
    × ((view : View) → ShowsAt tables old position view → ShowsAt tables new (record position { version = next; flight = None }) view)

module _ {P : Type 0} (picks : P → Clash → Wish → P → Type 0) where
  -- at one state and one clash there is one wish, and one state after it
  abbrev pub PicksOnce : Type 0
  PicksOnce =
      (p : P) (clash : Clash) (some other : Wish) (q r : P)
      → picks p clash some q
      → picks p clash other r
      → (some ≡ other) × (q ≡ r)

  -- by such a picker an entry that is taken from what one store shows leaves one state of the picker. It leaves one view at the
  -- places of the tables. Where the picker isn't asked, any wish serves, and they leave the same
  abbrev pub OneTaken : Type 0
  OneTaken =
      (tables : List TableDef) (contents : Contents) (position : Position) (entry : List TableChanges)
      (before seen some other : View) (p q r : P)
      → AreTables tables
      → IsNormalChangeset entry
      → PicksOnce
      → ShowsAt tables contents position before
      → ShowsAt tables contents position seen
      → IsTaken picks tables position.flight entry before some p q
      → IsTaken picks tables position.flight entry seen other p r
      → AreSame some.tables other.tables
      × ((table : TableDef) (key : List ℕ) → Contains tables table
      → other.pending table.name key ≡ some.pending table.name key)
      × (q ≡ r)

  -- and so a store that shows a replica holds one thing after it
  abbrev pub OneTakenIn : Type 0
  OneTakenIn =
      (tables : List TableDef) (position : Position) (next : ℕ) (entry : List TableChanges) (old some other : Contents) (p q r : P)
      → AreTables tables
      → IsNormalChangeset entry
      → PicksOnce
      → ShowsSomeAt tables position old
      → IsTakenTo picks tables position next entry p q old some
      → IsTakenTo picks tables position next entry p r old other
      → (some ≡ other) × (q ≡ r)

  -- such a picker stops at one conflict, in one state
  abbrev pub OneStopTaking : Type 0
  OneStopTaking =
      (tables : List TableDef) (flight : Option (List TableChanges)) (entry : List TableChanges) (before : View) (p q r : P)
      (some other : Conflict)
      → PicksOnce
      → StopsTaking picks tables flight entry before p some q
      → StopsTaking picks tables flight entry before p other r
      → (some ≡ other) × (q ≡ r)

  -- and it doesn't stop at an entry that is taken
  abbrev pub NoStopWhereTaken : Type 0
  NoStopWhereTaken =
      (tables : List TableDef) (flight : Option (List TableChanges)) (entry : List TableChanges) (before after : View) (p q r : P)
      (conflict : Conflict)
      → PicksOnce
      → IsTaken picks tables flight entry before after p q
      → StopsTaking picks tables flight entry before p conflict r
      → ⊥

  -- an entry that isn't defined on the log's rows is neither taken nor stopped at
  abbrev pub BadIsNeither : Type 0
  BadIsNeither =
      (tables : List TableDef) (flight : Option (List TableChanges)) (entry : List TableChanges) (before : View) (p q : P)
      → (IsDefinedOn tables entry (base flight before) → ⊥)
      → ((after : View) → IsTaken picks tables flight entry before after p q → ⊥)
      × ((conflict : Conflict) → StopsTaking picks tables flight entry before p conflict q → ⊥)

  -- in each state in which it may be asked, each clash gets a lawful answer, after which it may be asked
  abbrev pub AnswersLawfully : (P → Type 0) → Type 0
  AnswersLawfully is_ready =
      (p : P) (clash : Clash)
      → is_ready p
      → (wish : Wish) × (q : P) × picks p clash wish q × is_ready q × IsLawfulWish wish clash.conflict.kind clash.covers

  -- there is one: an entry that is defined on the log's rows of a view that is shown is taken, or the picker stops there. Where it is
  -- taken, the picker may be asked again
  abbrev pub TakenOrStopped : (P → Type 0) → Type 0
  TakenOrStopped is_ready =
      (tables : List TableDef) (contents : Contents) (position : Position) (entry : List TableChanges) (before : View) (p : P)
      → AreTables tables
      → IsNormalChangeset entry
      → ShowsAt tables contents position before
      → IsDefinedOn tables entry (base position.flight before)
      → AnswersLawfully is_ready
      → is_ready p
      → ((after : View) × (q : P) × IsTaken picks tables position.flight entry before after p q × is_ready q)
      ⊎ ((conflict : Conflict) × (q : P) × StopsTaking picks tables position.flight entry before p conflict q)

  -- and where it is taken, there is a store that holds what is left
  abbrev pub TakenInOrStopped : (P → Type 0) → Type 0
  TakenInOrStopped is_ready =
      (tables : List TableDef) (old : Contents) (position : Position) (next : ℕ) (entry : List TableChanges) (before : View) (p : P)
      → AreTables tables
      → IsNormalChangeset entry
      → ShowsAt tables old position before
      → IsDefinedOn tables entry (base position.flight before)
      → AnswersLawfully is_ready
      → is_ready p
      → ((new : Contents) × (q : P) × IsTakenTo picks tables position next entry p q old new × is_ready q)
      ⊎ ((conflict : Conflict) × (q : P) × StopsTaking picks tables position.flight entry before p conflict q)

-- a wish for the other's change where there is an own row, and else for what there is: none
abbrev pub taking_wish : Kind → Wish
taking_wish DataDiffers = Take
taking_wish NotFound = Keep
taking_wish KeyConflict = Take

-- a picker without a state that always wishes so
abbrev pub always_takes : Unit {0} → Clash → Wish → Unit {0} → Type 0
always_takes p clash wish q = wish ≡ taking_wish clash.conflict.kind

-- such a picker is one of those that the laws speak of. By it each entry that is defined on the log's rows is taken
pub record TakerTakes : Type 0 where
  pub once : PicksOnce always_takes
  pub lawful : AnswersLawfully always_takes (λ p. Unit {0})
  pub taken : (tables : List TableDef) (old : Contents) (position : Position) (next : ℕ) (entry : List TableChanges) (before : View)
      → AreTables tables
      → IsNormalChangeset entry
      → ShowsAt tables old position before
      → IsDefinedOn tables entry (base position.flight before)
      → (new : Contents) × IsTakenTo always_takes tables position next entry tt tt old new

-- ---- a table that gets more columns

-- an entry that widens a table, and is taken, leaves the log's rows with the new columns. What is pending then is sound over them
abbrev pub WidenedLeads : Type 0
WidenedLeads =
    (tables : List TableDef) (contents : Contents) (position : Position) (name : List ℕ) (width : ℕ) (before after : View)
    → AreTables tables
    → ShowsAt tables contents position before
    → IsWidened tables position.flight name width before after
    → AreSame (widened name width (base position.flight before)) (base None after)
    × IsSoundOf (widened_tables name width tables) after.pending after.tables

-- taken from what one store shows it leaves one view at the places of the tables
abbrev pub OneWidened : Type 0
OneWidened =
    (tables : List TableDef) (contents : Contents) (position : Position) (name : List ℕ) (width : ℕ) (before seen some other : View)
    → AreTables tables
    → ShowsAt tables contents position before
    → ShowsAt tables contents position seen
    → IsWidened tables position.flight name width before some
    → IsWidened tables position.flight name width seen other
    → AreSame some.tables other.tables
    × ((table : TableDef) (key : List ℕ) → Contains (widened_tables name width tables) table
    → other.pending table.name key ≡ some.pending table.name key)

-- and where a table may be widened so, there is a store that holds what is left
abbrev pub WidenCanBeTaken : Type 0
WidenCanBeTaken =
    (tables : List TableDef) (old : Contents) (position : Position) (name : List ℕ) (width : ℕ) (before : View)
    → AreTables tables
    → ShowsAt tables old position before
    → MayWiden tables (Widen name width)
    → (new : Contents) × IsWidenedIn tables position name width old new
