-- A replica's store that keeps what is pending as one value, and what it holds once the value is moved: each change at its place
use Rattle.std.specs.Prelude.{◌≡◌, ◌⊎◌, ℕ, pos, List, map, fold, Some}
use Rattle.std.specs.FinMap.{empty, insert, remove}
use Rattle.cs_value.specs.declared.catalog.TableDef.{TableDef}
use Rattle.cs_change.specs.Spelling.{change_spelling}
use Rattle.cs_normal.specs.declared.normal.TableChanges.{TableChanges}
use Rattle.cs_apply.specs.NormalTasks.{keyed_tasks}
use Rattle.cs_store.specs.Contents.{Bodies, Contents, StorePlace, meta_value, name_text}
use Rattle.cs_store.specs.declared.names.MetaName.TheVariants.{Pending}
use Rattle.cs_pending.specs.declared.position.position.Position.{Position}
use Rattle.cs_opening.specs.Fresh.{IsSameOrFirst}
use Rattle.cs_opening.specs.Kept.{IsPendingValue}
use Rattle.cs_opening.specs.Opens.{IsOpenFault, IsReplicaAt, StandsAt}
use Rattle.cs_opening.specs.declared.fault.OpenFault.{OpenFault}
use Rattle.cs_opening.specs.declared.fault.OpenFault.TheVariants.{Memory, Damaged, Device, Mismatch}

-- ---- the value, and where it is moved to

-- contents keep these changes as their value `pending`, and no change at a place
pub record KeepsValue (tables : List TableDef) (contents : Contents) (changes : List TableChanges) : Type 0 where
  pub bytes : List ℕ
  pub there : meta_value contents Pending ≡ Some bytes
  pub value : IsPendingValue tables bytes changes
  pub alone : contents.pending ≡ empty

-- the changes, each at its place as it is stored there
abbrev pub stored_changes : List TableDef → List TableChanges → List (StorePlace × List ℕ)
stored_changes tables changes = map (λ task. ((pos task.table, task.key), change_spelling task.change)) (keyed_tasks tables changes)

abbrev pub put_body : Bodies → (StorePlace × List ℕ) → Bodies
put_body bodies stored = insert bodies stored.0 stored.1

-- each change stands at its place, and the value is gone
abbrev pub moved : List TableDef → List TableChanges → Contents → Contents
moved tables changes contents = record {
  rows = contents.rows;
  pending = fold put_body contents.pending (stored_changes tables changes);
  meta = remove contents.meta (name_text Pending);
  log = contents.log;
}

-- ---- what is opened

-- contents keep a value, which is moved, and then show the replica with this id at the position
abbrev pub IsMovedTo : List TableDef → ℕ → Contents → Contents → Position → Type 0
IsMovedTo tables id old new position =
    (changes : List TableChanges) × KeepsValue tables old changes × (new ≡ moved tables changes old) × StandsAt tables id new position

-- the store is opened as it is, or laid out, or its value is moved
abbrev pub IsStoreOpened : List TableDef → ℕ → Contents → Contents → Position → Type 0
IsStoreOpened tables id old new position = IsReplicaAt tables id old new position ⊎ IsMovedTo tables id old new position

-- what may have been written
abbrev pub IsSameOrOpened : List TableDef → ℕ → Contents → Contents → Type 0
IsSameOrOpened tables id old new =
    IsSameOrFirst tables id old new ⊎ ((position : Position) × IsMovedTo tables id old new position)

-- ---- what is refused

-- with no value moved do the contents show the replica with this id
abbrev pub NeverMoves : List TableDef → ℕ → Contents → Type 0
NeverMoves tables id old =
    (changes : List TableChanges) (position : Position) → KeepsValue tables old changes
    → StandsAt tables id (moved tables changes old) position → ⊥

-- what is told of contents that can't be opened: what is told of them as they are. Where this is Damaged, no value that is moved mends it
abbrev pub IsStoreFault : List TableDef → ℕ → Contents → OpenFault → Type 0
IsStoreFault tables id old Memory = Unit {0}
IsStoreFault tables id old Damaged = IsOpenFault tables id old Damaged × NeverMoves tables id old
IsStoreFault tables id old Device = Unit {0}
IsStoreFault tables id old Mismatch = IsOpenFault tables id old Mismatch
