-- The laws of replicas that stand on what is known.
use Rattle.std.specs.Prelude.{◌≡◌, ◌≤◌, ◌<◌, ◌^◌, ℕ, List, None, Some, Result, Ok, Err, Contains, length, slice_get, take}
use Rattle.cs_value.specs.Catalog.{AreTables}
use Rattle.cs_value.specs.declared.catalog.TableDef.{TableDef}
use Rattle.cs_normal.specs.Normal.{IsNormalChangeset}
use Rattle.cs_store.specs.log.Entry.{entry_changes}
use Rattle.cs_store.specs.declared.log.entry.LogEntry.{LogEntry}
use Rattle.cs_store.specs.Contents.{Contents}
use Rattle.cs_store.specs.declared.store.RowStore.{Ghosts}
use Rattle.cs_conflict.specs.declared.clash.Clash.{Clash}
use Rattle.cs_conflict.specs.declared.wish.Wish.{Wish}
use Rattle.cs_pending.specs.Laws.{empty_view}
use Rattle.cs_pending.specs.View.{View}
use Rattle.cs_pending.specs.position.Shows.{ShowsAt}
use Rattle.cs_pending.specs.declared.position.position.Position.{Position}
use Rattle.cs_replica.specs.Holding.{Holding}
use Rattle.cs_exchange.specs.taking.Laws.{AnswersLawfully, PicksOnce}
use Rattle.cs_nodes.specs.following.Pulls.{PullsAll}
use Rattle.cs_nodes.specs.following.Pushes.{IsAtRest, PushesOn}
use Rattle.cs_nodes.specs.following.Standing.{Begins, StandsIn, StandsWhereHonest}
use Rattle.cs_nodes.specs.declared.following.fault.NodeFault.{NodeFault}
use Rattle.cs_nodes.specs.declared.following.pushed.NodePush.{NodePush}
use Rattle.cs_nodes.specs.declared.following.fault.NodeFault.TheVariants.{Memory, Device, BadEntry, Stopped, Full, Spent, TooLarge}

-- a replica at version 0 with no row and nothing pending or under way stands on whatever is known
abbrev pub FreshStands : Type 0
FreshStands =
    (tables : List TableDef) (known : List LogEntry) (position : Position)
    → AreTables tables
    → position.version ≡ 0
    → position.flight ≡ None
    → StandsIn tables known position empty_view

-- one that stands on what is known stands there as more gets known
abbrev pub StandsWider : {S : Type 0} → Ghosts S → Type 0
StandsWider {S} g =
    (known all : List LogEntry) (held : Holding S)
    → Begins known all
    → StandsWhereHonest g known held
    → StandsWhereHonest g all held

-- two replicas stand at one version with nothing pending or under way, on lists that are the same up to there. They have the same rows
-- then
abbrev pub EqualWhereMet : Type 0
EqualWhereMet =
    (tables : List TableDef) (known others : List LogEntry) (both : ℕ) (contents more : Contents) (position other : Position) (view seen : View)
    → take both known ≡ take both others
    → position.version ≤ both
    → position.version ≡ other.version
    → IsAtRest position
    → IsAtRest other
    → ShowsAt tables contents position view
    → ShowsAt tables more other seen
    → StandsIn tables known position view
    → StandsIn tables others other seen
    → (table : TableDef) (key : List ℕ) → Contains tables table → view.tables table.name key ≡ seen.tables table.name key

-- ---- pulls

-- the entries have normal changesets, as all of the type have
abbrev pub AreNormal : List LogEntry → Type 0
AreNormal known = (at : ℕ) (entry : LogEntry) → slice_get known at ≡ Some entry → IsNormalChangeset (entry_changes entry)

-- a result that says something of the entries
abbrev pub IsOfEntries : Result ℕ NodeFault → Type 0
IsOfEntries (Ok count) = Unit {0}
IsOfEntries (Err Memory) = ⊥
IsOfEntries (Err Device) = ⊥
IsOfEntries (Err BadEntry) = Unit {0}
IsOfEntries (Err (Stopped conflict)) = Unit {0}
IsOfEntries (Err Full) = Unit {0}
IsOfEntries (Err Spent) = Unit {0}
IsOfEntries (Err TooLarge) = Unit {0}

module _ {P : Type 0} (picks : P → Clash → Wish → P → Type 0) where
  -- by a picker that answers each clash once, a pull of what is known has one result. It leaves one catalog, one position, one thing in
  -- the store, and one state of the picker
  abbrev pub OneKnownPull : Type 0
  OneKnownPull =
      (tables wide its : List TableDef) (known : List LogEntry) (old new last : Contents) (position here there : Position) (before : View)
      (some other : Result ℕ NodeFault) (p q r : P)
      → AreTables tables
      → AreNormal known
      → PicksOnce picks
      → ShowsAt tables old position before
      → IsOfEntries some
      → IsOfEntries other
      → PullsAll picks tables known some position before p wide here new q
      → PullsAll picks tables known other position before p its there last r
      → (some ≡ other) × (wide ≡ its) × (here ≡ there) × (new ≡ last) × (q ≡ r)

  -- and there is one. A replica that is not ahead of what is known comes to the last of it or to an entry that isn't pulled. There is a
  -- store that holds what is left
  abbrev pub KnownPullHasResult : (P → Type 0) → Type 0
  KnownPullHasResult is_ready =
      (tables : List TableDef) (known : List LogEntry) (old : Contents) (position : Position) (before : View) (p : P)
      → AreTables tables
      → AreNormal known
      → length known < 2 ^ 64
      → position.version ≤ length known
      → ShowsAt tables old position before
      → AnswersLawfully picks is_ready
      → is_ready p
      → (result : Result ℕ NodeFault) × (others : List TableDef) × (other : Position) × (new : Contents) × (q : P) × IsOfEntries result
      × PullsAll picks tables known result position before p others other new q

-- ---- pushes

-- a result that says something of the push and of the cells
abbrev pub IsOfOffer : Result NodePush NodeFault → Type 0
IsOfOffer (Ok told) = Unit {0}
IsOfOffer (Err fault) = IsOfEntries (Err fault)

-- by a picker that answers each clash once, a push has one outcome, given what is known as it ends. Of the cell that it is offered for,
-- that is its entry. The push leaves one catalog, one position, one thing in the store, and one state of the picker
abbrev pub OneKnownPush : {P : Type 0} → (P → Clash → Wish → P → Type 0) → Type 0
OneKnownPush {P} picks =
    (tables wide its : List TableDef) (known learned : List LogEntry) (cells : ℕ) (old new last : Contents) (position here there : Position) (before : View)
    (some other : Result NodePush NodeFault) (p q r : P)
    → AreTables tables
    → AreNormal learned
    → PicksOnce picks
    → ShowsAt tables old position before
    → IsOfOffer some
    → IsOfOffer other
    → PushesOn picks tables known position before p cells some learned wide here new q
    → PushesOn picks tables known position before p cells other learned its there last r
    → (some ≡ other) × (wide ≡ its) × (here ≡ there) × (new ≡ last) × (q ≡ r)
