-- How a replica pushes through a row of cells that are set once (profile of this project).
use Rattle.std.specs.Prelude.{◌≡◌, ◌≢◌, ◌⊎◌, ◌<◌, ℕ, Bool, true, false, List, [], ◌∷◌, ◌++◌, length, Some, None, IsSome, Result, Ok, Err}
use Rattle.cs_value.specs.Catalog.{AreTables}
use Rattle.cs_value.specs.declared.catalog.TableDef.{TableDef}
use Rattle.cs_normal.specs.State.{IsDefinedOn}
use Rattle.cs_normal.specs.declared.normal.TableChanges.{TableChanges}
use Rattle.cs_store.specs.log.Entry.{entry_changes}
use Rattle.cs_store.specs.log.Log.{catalog_after, tables_at}
use Rattle.cs_store.specs.declared.log.entry.LogEntry.{LogEntry}
use Rattle.cs_store.specs.Contents.{Contents}
use Rattle.cs_conflict.specs.declared.clash.Clash.{Clash}
use Rattle.cs_conflict.specs.declared.wish.Wish.{Wish}
use Rattle.cs_pending.specs.View.{View}
use Rattle.cs_pending.specs.position.Shows.{ShowsAt}
use Rattle.cs_pending.specs.declared.position.position.Position.{Position}
use Rattle.cs_exchange.specs.pulling.Pulls.{PullsOne}
use Rattle.cs_exchange.specs.pushing.Pushes.{HasNothing, IsPushFault, IsPushMade, IsPushMadeIn, grounded, pushed}
use Rattle.cs_exchange.specs.declared.pushing.fault.PushFault.TheVariants as push
use Rattle.cs_replica.specs.Flight.{flight_entry}
use Rattle.cs_exchange.specs.taking.Takes.{taken}
use Rattle.cs_nodes.specs.following.Pulls.{IsNextKnown, IsTakeFault}
use Rattle.cs_nodes.specs.declared.following.fault.NodeFault.{NodeFault}
use Rattle.cs_nodes.specs.declared.following.fault.NodeFault.TheVariants.{Memory, Device, BadEntry, Stopped, Full, Spent, TooLarge}
use Rattle.cs_nodes.specs.declared.following.pushed.NodePush.{NodePush}
use Rattle.cs_nodes.specs.declared.following.pushed.NodePush.TheVariants.{Nothing, Behind, Accepted, Other}

-- ---- a push that is ready

-- nothing is pending and no push is under way
abbrev pub IsAtRest : Position → Type 0
IsAtRest position = (position.flight ≡ None) × (position.pending ≡ 0)

-- a push is under way: it was so before, or it was made of what is pending
abbrev pub IsReady : List TableDef → Position → View → Position → View → Type 0
IsReady tables position before ready view =
    (IsSome position.flight × (ready ≡ position) × (view ≡ before))
    ⊎ ((left : Contents) × (changes : List TableChanges) × IsPushMade tables position before left changes
    × (ready ≡ pushed position changes) × (view ≡ grounded before))

-- whether one is, and what the store shows then; or there is nothing to push
abbrev pub IsReadied : List TableDef → Position → View → Bool → Position → Contents → Type 0
IsReadied tables position before true other new =
    (view : View) × ShowsAt tables new other view × IsReady tables position before other view
IsReadied tables position before false other new =
    (other ≡ position) × ShowsAt tables new position before × (position.flight ≡ None) × HasNothing tables before

-- why no push is made
abbrev pub IsReadyFault : NodeFault → List TableDef → Position → View → Type 0
IsReadyFault Memory tables position view = Unit {0}
IsReadyFault Device tables position view = Unit {0}
IsReadyFault BadEntry tables position view = ⊥
IsReadyFault (Stopped conflict) tables position view = ⊥
IsReadyFault Full tables position view = ⊥
IsReadyFault Spent tables position view = IsPushFault push.Spent tables position view
IsReadyFault TooLarge tables position view = IsPushFault push.TooLarge tables position view

-- ---- a push that is offered

module _ {P : Type 0} (picks : P → Clash → Wish → P → Type 0) (tables : List TableDef) (known : List LogEntry) (position : Position) (before : View) (p : P) where
  -- the push was offered for the cell behind all that was known, at the replica's version, where it is defined. The cell holds this
  -- entry, which was pulled. `others` are the replica's tables then
  pub record IsSent (entry mine : LogEntry) (learned : List LogEntry) (others : List TableDef) (other : Position) (new : Contents) (q : P) : Type 0 where
    pub at_end : position.version ≡ length known
    pub ready : Position
    pub view : View
    pub readied : IsReady tables position before ready view
    pub flight : flight_entry ready ≡ Some mine
    pub defined : IsDefinedOn tables (entry_changes mine) (tables_at known position.version)
    pub holds : learned ≡ known ++ entry ∷ []
    pub after : View
    pub pulls : PullsOne picks tables ready entry view p after q
    pub catalog : others ≡ catalog_after tables entry.body
    pub version : other ≡ taken ready other.pending
    pub shows : ShowsAt others new other after

  -- what is told of a push, and what it has made of the replica. There is nothing to push, or the replica is behind what is known,
  -- or the cell holds the push, or another entry
  abbrev pub IsPushTold : NodePush → List LogEntry → List TableDef → Position → Contents → P → Type 0
  IsPushTold Nothing learned others other new q =
      (position.flight ≡ None) × HasNothing tables before
      × (learned ≡ known) × (others ≡ tables) × (other ≡ position) × ShowsAt tables new position before × (q ≡ p)
  IsPushTold Behind learned others other new q =
      (IsAtRest position → ⊥) × (position.version < length known)
      × (learned ≡ known) × (others ≡ tables) × (other ≡ position) × ShowsAt tables new position before × (q ≡ p)
  IsPushTold (Accepted version) learned others other new q =
      (version ≡ other.version) × ((entry : LogEntry) × IsSent entry entry learned others other new q)
  IsPushTold (Other version) learned others other new q =
      (version ≡ other.version) × ((entry : LogEntry) × (mine : LogEntry) × (mine ≢ entry) × IsSent entry mine learned others other new q)

  -- the replica is as it was, or a push is under way
  abbrev pub IsHeld : Position → View → Type 0
  IsHeld ready view = ((ready ≡ position) × (view ≡ before)) ⊎ IsReady tables position before ready view

  -- a push that failed after it was offered: the entry of the cell wasn't pulled
  pub record IsNotTaken (fault : NodeFault) (learned : List LogEntry) (ready : Position) (view : View) (q : P) : Type 0 where
    pub at_end : position.version ≡ length known
    pub readied : IsReady tables position before ready view
    pub entry : LogEntry
    pub holds : learned ≡ known ++ entry ∷ []
    pub told : IsTakeFault picks tables fault ready entry view p q

  -- no push is made of what is pending behind all that is known, and this is why
  pub record IsNotMade (fault : _) (ready : Position) (view : View) : Type 0 where
    pub at_end : position.version ≡ length known
    pub fault_is : IsPushFault fault tables position before
    pub position_is : ready ≡ position
    pub view_is : view ≡ before

  -- or before: where no cell is left, a push is under way
  abbrev pub IsNotOffered : ℕ → NodeFault → Position → View → Type 0
  IsNotOffered cells Memory ready view = Unit {0}
  IsNotOffered cells Device ready view = Unit {0}
  IsNotOffered cells BadEntry ready view = ⊥
  IsNotOffered cells (Stopped conflict) ready view = ⊥
  IsNotOffered cells Full ready view =
      (position.version ≡ length known) × (length known ≡ cells) × IsReady tables position before ready view
  IsNotOffered cells Spent ready view = IsNotMade push.Spent ready view
  IsNotOffered cells TooLarge ready view = IsNotMade push.TooLarge ready view

  -- what is left of a push that failed: the last step, or both, stay out
  pub record IsNotPushed (cells : ℕ) (fault : NodeFault) (learned : List LogEntry) (others : List TableDef) (other : Position) (new : Contents) (q : P) : Type 0 where
    pub view : View
    pub held : IsHeld other view
    pub catalog : others ≡ tables
    pub shows : ShowsAt tables new other view
    pub told : (IsNotOffered cells fault other view × (learned ≡ known) × (q ≡ p)) ⊎ IsNotTaken fault learned other view q

  -- what became of a push on a row of so many cells. `others` are the replica's tables then
  abbrev pub PushesOn : ℕ → Result NodePush NodeFault → List LogEntry → List TableDef → Position → Contents → P → Type 0
  PushesOn cells (Ok told) learned others other new q = IsPushTold told learned others other new q
  PushesOn cells (Err fault) learned others other new q = IsNotPushed cells fault learned others other new q

-- contents that stood after one of the commits: a push was made, or the entry of its cell was pulled after that
abbrev pub IsSentAmong : {P : Type 0} → (P → Clash → Wish → P → Type 0) → List TableDef → Position → Contents → P → Contents → Type 0
IsSentAmong {P} picks tables position old p left =
    AreTables tables → (before : View) → ShowsAt tables old position before
    → (ready : Position) × (view : View) × IsReady tables position before ready view
    × (ShowsAt tables left ready view
    ⊎ ((entry : LogEntry) × (after : View) × (q : P) × (pending : ℕ)
    × PullsOne picks tables ready entry view p after q × ShowsAt (catalog_after tables entry.body) left (taken ready pending) after))

-- contents that one commit more would have left: a push was made, or of what is known the entry at the version was pulled
abbrev pub IsSentNext : {P : Type 0} → (P → Clash → Wish → P → Type 0) → List TableDef → List LogEntry → Position → Contents → Contents → Type 0
IsSentNext {P} picks tables learned position now left =
    IsPushMadeIn tables position now left ⊎ IsNextKnown picks tables learned position now left

-- an entry was taken
abbrev pub HasTaken : Result NodePush NodeFault → Type 0
HasTaken (Ok Nothing) = ⊥
HasTaken (Ok Behind) = ⊥
HasTaken (Ok (Accepted version)) = Unit {0}
HasTaken (Ok (Other version)) = Unit {0}
HasTaken (Err fault) = ⊥
