-- The laws of a store in SQLite. What it holds where it is made over a database is one, and what a database is found to be is
-- one. What a stop leaves of a store opens as one, and so do the files that a close leaves.
use Rattle.std.specs.Prelude.{◌≡◌, []}
use Rattle.sqlite.specs.Effect.{Database, IsDatabase}
use Rattle.sqlite.specs.Files.{HoldsDatabase}
use Rattle.sqlite.specs.Recovery.{Image}
use Rattle.sqlite.specs.Store.{Ghosts}
use Rattle.sqlite.specs.Held.{state}
use Rattle.sqlite.specs.State.{State, HasCleanDisk}
use Rattle.sqlite.specs.Tree.{Trees}
use Rattle.cs_store.specs.Contents.{Contents, nothing}
use Rattle.cs_sql.specs.statements.Found.{IsFound}
use Rattle.cs_sql.specs.declared.statements.counting.LogFound.{LogFound}
use Rattle.cs_sql.specs.declared.statements.looking.Found.{Found}
use Rattle.cs_sql.specs.declared.statements.looking.Found.TheVariants.{Foreign, Ours}
use Rattle.cs_sql.specs.Keeping.{IsAdopted, IsHeldIn, Kept, MayLeave, holds}
use Rattle.cs_sql.specs.Opening.{HoldStore, OpenedHolds}

-- a store holds one thing of what a database shows
abbrev pub OneIsHeld : Type 0
OneIsHeld = (db : Database) (some other : Contents) → IsHeldIn db some → IsHeldIn db other → some ≡ other

-- stores that adopt what one connection showed hold one thing, and a stop leaves one
abbrev pub OneIsAdopted : {S : Type 0} → Ghosts S → State → Type 0
OneIsAdopted {S} g shown =
    (some other : Kept S) → IsAdopted g shown some → IsAdopted g shown other
    → (holds g some ≡ holds g other)
    × ((left last : Contents) → MayLeave g some left → MayLeave g other last → left ≡ last)

-- no store adopts what is found to be foreign
abbrev pub NoneIsForeign : {S : Type 0} → Ghosts S → State → Type 0
NoneIsForeign {S} g shown = (s : Kept S) → IsAdopted g shown s → ¬ IsFound Foreign shown.now

-- a database is found to be one thing
abbrev pub OneIsFound : Type 0
OneIsFound = (db : Database) (some other : Found) → IsFound some db → IsFound other db → some ≡ other

-- no database is none of them
abbrev pub SomeIsFound : Type 0
SomeIsFound = (db : Database) → ¬ ((found : Found) → ¬ IsFound found db)

-- stores that are opened in files that hold a database hold one thing
abbrev pub OneIsOpened : Type 0
OneIsOpened = (image : Image) (trees : Trees) (some other : Contents) → ∥ HoldsDatabase image trees ∥₁ → OpenedHolds image some → OpenedHolds image other → some ≡ other

-- a store that is opened in files that hold a store's database holds what that holds
abbrev pub FilesOpenAgain : Type 0
FilesOpenAgain = (image : Image) (held found : Contents) → HoldStore image held → OpenedHolds image found → found ≡ held

-- one that is opened in a database file without bytes holds nothing, whatever log stands beside it
abbrev pub EmptyOpensToNothing : Type 0
EmptyOpensToNothing = (image : Image) (held : Contents) → image.db ≡ [] → OpenedHolds image held → held ≡ nothing

-- the database is found to be a store's and nothing else, and what a store over it holds is this
pub record OpensAs (left : Contents) (db : Database) : Type 0 where
  pub log : LogFound
  pub found : IsFound (Ours log) db
  pub alone : (other : Found) → IsFound other db → other ≡ Ours log
  pub held : IsHeldIn db left
  pub only : (other : Contents) → IsHeldIn db other → other ≡ left

-- what a stop may leave of a store opens as one that holds what was left. A connection that shows the trees that were left shows
-- a database of theirs, and each is found so
abbrev pub LeftOpens : {S : Type 0} → Ghosts S → Kept S → Type 0
LeftOpens {S} g s = HasCleanDisk (state g s.conn) → (left : Contents) (it : MayLeave g s left) (db : Database) → IsDatabase db → db.trees ≡ it.0 → OpensAs left db
