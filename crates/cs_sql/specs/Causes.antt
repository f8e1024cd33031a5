-- Why a call of the engine fails.
use Rattle.std.specs.Prelude.{◌≡◌, ◌⊎◌, false, ℕ, List, length, Option, Result, Ok, Err, IsSome}
use Rattle.sqlite_disk.specs.Disk.{MoreFaults}
use Rattle.sqlite_resolve.specs.declared.compiled.Compiled.{Compiled}
use Rattle.sqlite_resolve.specs.declared.error.CompileError.{CompileError}
use Rattle.sqlite.specs.Effect.{Database, RefusesToRead}
use Rattle.sqlite.specs.Listing.{IsSourceOf, reads_listing, understood}
use Rattle.sqlite.specs.Order.{Row}
use Rattle.sqlite.specs.State.{State}
use Rattle.sqlite.specs.declared.error.Error.{Error}
use Rattle.sqlite.specs.declared.error.Error.TheVariants.{SqliteFailure}
use Rattle.sqlite.specs.declared.error.ErrorCode.TheVariants.{OutOfMemory}

-- the disk failed or refused meanwhile, or the connection was shut, or its caller lets a query take only so many steps
abbrev pub EngineFails : State → State → Type 0
EngineFails old new = MoreFaults old.faults new.faults ⊎ ((old.is_open ≡ false) ⊎ IsSome old.step_limit)

-- the engine was out of memory, or failed for one of these causes
abbrev pub IsCaused : State → State → Error → Type 0
IsCaused old new e = (e ≡ SqliteFailure OutOfMemory) ⊎ EngineFails old new

-- the text is one statement, of so many parameters
abbrev pub IsOne : ℕ → List ℕ → Result Compiled CompileError → Type 0
IsOne count sql (Ok c) = (c.tail ≡ length sql) × (length c.names ≡ count)
IsOne count sql (Err e) = ⊥

-- a query that the engine refuses only for its caller's limit on steps
pub record IsGranted (sql : List ℕ) (params : Row) (now : Database) : Type 0 where
  pub one : IsOne (length params) sql (understood now.schema sql)
  pub granted : (limit : Option ℕ) (c : Compiled) (db : Database) (e : Error) → understood now.schema sql ≡ Ok c → IsSourceOf (reads_listing now.schema sql) now db → RefusesToRead limit c.command db params e → IsSome limit
