-- A store in the files at a path.
use Rattle.std.specs.Prelude.{◌≡◌, ◌≢◌, ◌⊎◌, Option, None, Result, IsTrue, IfErr, IfSome}
use Rattle.sqlite.specs.Held.{Held, IsNew}
use Rattle.sqlite.specs.Effect.{Database, IsDatabase}
use Rattle.sqlite.specs.Files.{AreFoundIn, FailsToOpenFiles, HoldsDatabase, IsCleanLeft, IsOpened, file_state, over_files}
use Rattle.sqlite.specs.Opening.{is_open_error}
use Rattle.sqlite.specs.Start.{FindsIn}
use Rattle.sqlite.specs.State.{HasCleanDisk}
use Rattle.sqlite.specs.Recovery.{Image}
use Rattle.sqlite.specs.Tree.{Trees}
use Rattle.sqlite.specs.declared.error.Error.{Error}
use Rattle.sqlite.specs.declared.error.Error.TheVariants.{SqliteFailure}
use Rattle.sqlite.specs.declared.error.ErrorCode.TheVariants.{CannotOpen, DatabaseBusy, OutOfMemory}
use Rattle.sqlite.specs.declared.file.Leftover.{Leftover}
use Rattle.sqlite_disk.specs.declared.Disk as disk
use Rattle.sqlite_disk.specs.declared.Files.{Files}
use Rattle.sqlite_store.specs.declared.store.FileStore.{FileStore}
use Rattle.cs_store.specs.Contents.{Contents}
use Rattle.cs_store.specs.declared.fault.StoreFault.{StoreFault}
use Rattle.cs_store.specs.declared.fault.StoreFault.TheVariants.{Device}
use Rattle.cs_sql.specs.Causes.{EngineFails}
use Rattle.cs_sql.specs.Keeping.{IsAdopted, IsHeldIn, Kept, OpenAsStore, ShowsForeign}
use Rattle.cs_sql.specs.statements.Tables.{contents_in}

-- the store holds what the files held, as a connection that was opened in them found it
pub record IsOpenedAt {D : Type 0} {g : disk.Ghosts D} (image : Image) (s : Kept (FileStore D g)) : Type 0 where
  pub conn : Held (FileStore D g)
  pub opened : IsOpened conn
  pub found : FindsIn image (file_state conn)
  pub adopted : IsAdopted over_files (file_state conn) s

-- a connection that is opened in the files shows this database: the one that they hold, if they hold one
pub record OpenedShows (image : Image) (db : Database) : Type 0 where
  pub sound : IsDatabase db
  pub holds : (trees : Trees) → HoldsDatabase image trees → db.trees ≡ trees
  pub reads : AreFoundIn image db.trees

-- a store that is opened in the files holds this
abbrev pub OpenedHolds : Image → Contents → Type 0
OpenedHolds image held = (db : Database) × OpenedShows image db × IsHeldIn db held

-- the files hold a store's database, which holds this
abbrev pub HoldStore : Image → Contents → Type 0
HoldStore image held = (trees : Trees) × ∥ HoldsDatabase image trees ∥₁ × OpenAsStore trees × (held ≡ contents_in trees)

-- the engine's answer where it opened no connection, and memory was not what it lacked. It got no files, or tells what they held
-- or what became of them
pub record IsUnopened {D : Type 0} (g : disk.Ghosts D) : Type 0 where
  pub error : Error
  pub left : Option (Leftover D g)
  pub other : error ≢ SqliteFailure OutOfMemory
  pub named : IsTrue (is_open_error error)
  pub unopened : left ≡ None → (error ≡ SqliteFailure CannotOpen) ⊎ (error ≡ SqliteFailure DatabaseBusy)
  pub cause : IfSome left (λ rest. (files : Files D) × (IsCleanLeft rest → FailsToOpenFiles files rest error))

-- a connection that was opened, and given back since the engine failed or since it shows another's database
pub record IsUnadopted {D : Type 0} (g : disk.Ghosts D) (image : Image) : Type 0 where
  pub conn : Held (FileStore D g)
  pub given : Held (FileStore D g)
  pub fresh : IsNew conn
  pub opened : HasCleanDisk (file_state given) → IsOpened conn
  pub found : HasCleanDisk (file_state given) → FindsIn image (file_state conn)
  pub why : HasCleanDisk (file_state given) → EngineFails (file_state conn) (file_state given) ⊎ ShowsForeign (file_state conn)

-- `Device` is told for one of these
abbrev pub TellsWhy : {D : Type 0} {g : disk.Ghosts D} → Image → Result (Kept (FileStore D g)) StoreFault → Type 0
TellsWhy {D} {g} image result = IfErr result (λ fault. fault ≡ Device → IsUnopened g ⊎ IsUnadopted g image)
