-- How a replica takes the entries that a thread knows, one after another (profile of this project). `picks p clash wish q` is an
-- answer: at p the picker is shown the clash, wishes, and is left as q.
use Rattle.std.specs.Prelude.{◌≡◌, ◌+◌, ◌≤◌, ◌<◌, ℕ, List, [], ◌∷◌, length, Some, slice_get, Result, Ok, Err}
use Rattle.cs_value.specs.declared.catalog.TableDef.{TableDef}
use Rattle.cs_store.specs.log.Log.{catalog_after, entries_between}
use Rattle.cs_store.specs.declared.log.entry.LogEntry.{LogEntry}
use Rattle.cs_store.specs.Contents.{Contents}
use Rattle.cs_conflict.specs.declared.clash.Clash.{Clash}
use Rattle.cs_conflict.specs.declared.wish.Wish.{Wish}
use Rattle.cs_pending.specs.View.{View}
use Rattle.cs_pending.specs.position.Shows.{ShowsAt}
use Rattle.cs_pending.specs.declared.position.position.Position.{Position}
use Rattle.cs_exchange.specs.taking.Takes.{taken}
use Rattle.cs_exchange.specs.pulling.Pulls.{IsBad, IsPulledIn, PullsOne, StopsPull}
use Rattle.cs_nodes.specs.declared.following.fault.NodeFault.{NodeFault}
use Rattle.cs_nodes.specs.declared.following.fault.NodeFault.TheVariants.{Memory, Device, BadEntry, Stopped, Full, Spent, TooLarge}

module _ {P : Type 0} (picks : P → Clash → Wish → P → Type 0) where
  -- the entries are pulled one after another, and a store shows what each leaves behind it, by the catalog that it leaves. `others` is
  -- the catalog behind them all
  unfoldable pub PullsEach : List TableDef → List LogEntry → Position → View → P → List TableDef → Position → View → P → Type 0
  PullsEach tables [] position view p others other end q = (others ≡ tables) × (other ≡ position) × (end ≡ view) × (q ≡ p)
  PullsEach tables (entry ∷ entries) position view p others other end q =
      (pending : ℕ) × (left : Contents) × (next : View) × (between : P)
      × PullsOne picks tables position entry view p next between
      × ShowsAt (catalog_after tables entry.body) left (taken position pending) next
      × PullsEach (catalog_after tables entry.body) entries (taken position pending) next between others other end q

  -- those that are known from the one version to the other are pulled
  pub record PullsKnown (tables : List TableDef) (known : List LogEntry) (position : Position) (view : View) (p : P) (others : List TableDef) (other : Position) (end : View) (q : P) : Type 0 where
    pub onwards : position.version ≤ other.version
    pub within : other.version ≤ length known
    pub pulls : PullsEach tables (entries_between known position.version other.version) position view p others other end q

  -- why the next entry isn't pulled
  abbrev pub IsTakeFault : List TableDef → NodeFault → Position → LogEntry → View → P → P → Type 0
  IsTakeFault tables Memory position entry view p q = Unit {0}
  IsTakeFault tables Device position entry view p q = Unit {0}
  IsTakeFault tables BadEntry position entry view p q = IsBad tables position entry view × (q ≡ p)
  IsTakeFault tables (Stopped conflict) position entry view p q = StopsPull picks tables position entry view p conflict q
  IsTakeFault tables Full position entry view p q = ⊥
  IsTakeFault tables Spent position entry view p q = ⊥
  IsTakeFault tables TooLarge position entry view p q = ⊥

  -- how a pull ended behind those that were pulled: it has come to the last that is known, and so many were taken. Or the next
  -- isn't pulled
  abbrev pub EndsPull : List TableDef → List LogEntry → Position → Result ℕ NodeFault → Position → View → P → P → Type 0
  EndsPull tables known position (Ok count) other end p q =
      (other.version ≡ length known) × (other.version ≡ position.version + count) × (q ≡ p)
  EndsPull tables known position (Err fault) other end p q =
      (entry : LogEntry) × (slice_get known other.version ≡ Some entry) × IsTakeFault tables fault other entry end p q

  -- a pull of what is known: so many entries are pulled, the store shows the replica behind them, and there it ended. `others` are its
  -- tables then
  abbrev pub PullsAll : List TableDef → List LogEntry → Result ℕ NodeFault → Position → View → P → List TableDef → Position → Contents → P → Type 0
  PullsAll tables known result position before p others other new q =
      (end : View) × (between : P) × PullsKnown tables known position before p others other end between
      × ShowsAt others new other end × EndsPull others known position result other end between q

  -- contents that stood after one of the commits: some of the entries were pulled
  abbrev pub IsPulledAmong : List TableDef → List LogEntry → Position → Contents → P → Contents → Type 0
  IsPulledAmong tables known position old p left =
      (before : View) → ShowsAt tables old position before
      → (others : List TableDef) × (other : Position) × (end : View) × (q : P)
      × PullsKnown tables known position before p others other end q × (position.version < other.version) × ShowsAt others left other end

  -- contents that one commit more would have left: of what is known, the entry at the version was pulled
  abbrev pub IsNextKnown : List TableDef → List LogEntry → Position → Contents → Contents → Type 0
  IsNextKnown tables known position now left =
      (entry : LogEntry) × (slice_get known position.version ≡ Some entry)
      × ((p : P) × (q : P) × IsPulledIn picks tables position entry p q now left)
