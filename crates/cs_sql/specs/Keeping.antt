-- A store over a connection.
use Rattle.std.specs.Prelude.{◌≡◌, ◌⊎◌, ℕ, Bool, ◌≤◌, ◌+◌, Option, Some, None, false, IsTrue, refl}
use Rattle.std.specs.Coded.{Coded, code_by, coded×, coded_ℕ, coded_bool}
use Rattle.sqlite.specs.Store.{Ghosts}
use Rattle.sqlite.specs.Effect.{Database, IsDatabase}
use Rattle.sqlite.specs.Schema.{Schema}
use Rattle.sqlite.specs.Tree.{Trees}
use Rattle.sqlite.specs.State.{State, HasCleanDisk, Survives}
use Rattle.sqlite.specs.Held.{Held, state, held_code}
use Rattle.cs_store.specs.Contents.{Contents, LogItem, nothing}
use Rattle.cs_store.specs.Calls.{MoreFailures}
use Rattle.cs_store.specs.declared.fault.StoreFault.{StoreFault}
use Rattle.cs_store.specs.declared.fault.StoreFault.TheVariants.{Device}
use Rattle.cs_sql.specs.statements.Tables.{AreKept, contents_in}
use Rattle.cs_sql.specs.statements.Steps.{IsReady, Stays}
use Rattle.cs_sql.specs.declared.statements.counting.LogFound.{LogFound}
use Rattle.cs_sql.specs.declared.statements.looking.Found.TheVariants.{Foreign, Fresh, Front, Ours}
use Rattle.cs_sql.specs.statements.Found.{IsFound, IsLogOf, front_in}

-- the count never falls, and rises with `Device`
pub record IsToldAs (fault : StoreFault) (old new : ℕ) : Type 0 where
  pub later : old ≤ new
  pub cause : fault ≡ Device → MoreFailures old new

pub record Kept (S : Type 0) : Type 0 where
  pub conn : Held S
  -- as a commit last left it
  pub last : Held S
  -- how many entries the log has, and whether one stands at each version below that number
  pub log : LogFound
  pub failures : ℕ
  pub misreads : ℕ

abbrev pub kept_code : {S : Type 0} → Coded S → Coded (Kept S)
kept_code {S} store =
    code_by (Held S × (Held S × (ℕ × (Bool × (ℕ × ℕ))))) (coded× (held_code store) (coded× (held_code store) (coded× coded_ℕ (coded× coded_bool (coded× coded_ℕ coded_ℕ)))))
    (λ s. (s.conn, (s.last, (s.log.entries, (s.log.is_whole, (s.failures, s.misreads))))))
    (λ p. record { conn = p.0; last = p.1.0; log = record { entries = p.1.1.0; is_whole = p.1.1.1.0 }; failures = p.1.1.1.1.0; misreads = p.1.1.1.1.1 }) (λ _. refl)

-- a store that was just made over the connection
abbrev pub made_over : {S : Type 0} → Held S → LogFound → Kept S
made_over conn log = record { conn = conn; last = conn; log = log; failures = 0; misreads = 0 }

-- how many entries there are with the new one
abbrev pub count_with : ℕ → Option LogItem → ℕ
count_with entries None = entries
count_with entries (Some entry) = entries + 1

-- ---- what a stop leaves

-- the trees open as a store: they are a store's, and this is so of the log that they hold
pub record OpenAsStore (trees : Trees) : Type 0 where
  pub kept : AreKept trees
  pub log : LogFound
  pub log_is : IsLogOf (contents_in trees) log

-- whatever a stop leaves opens as a store
abbrev pub LeavesStore : State → Type 0
LeavesStore s = (trees : Trees) → s.may_leave trees → OpenAsStore trees

-- what a connection committed last is a store's database, which holds this, and nothing is under way
pub record ShowsStore (held : Contents) (s : State) : Type 0 where
  pub settled : s.committed ≡ s.now
  pub opens : OpenAsStore s.committed.trees
  pub held_is : held ≡ contents_in s.committed.trees

module _ {S : Type 0} (g : Ghosts S) where
  abbrev pub holds : Kept S → Contents
  holds s = contents_in (state g s.last).now.trees

  -- a stop now leaves a database with these contents; the law `LeftOpens` says that a store opens over each that it leaves
  abbrev pub MayLeave : Kept S → Contents → Type 0
  MayLeave s left = (db : Trees) × (state g s.conn).may_leave db × (left ≡ contents_in db)

  -- between two commits, the connection shows what the last one left
  pub record IsSteady (conn last : Held S) (found : LogFound) : Type 0 where
    pub idle : conn.in_transaction ≡ false
    pub ready : HasCleanDisk (state g conn) → IsTrue (state g conn).is_open → IsReady (state g conn)
    pub same : HasCleanDisk (state g conn) → IsTrue (state g conn).is_open → contents_in (state g conn).now.trees ≡ contents_in (state g last).now.trees
    pub log : HasCleanDisk (state g conn) → IsLogOf (contents_in (state g last).now.trees) found
    pub left : HasCleanDisk (state g conn) → LeavesStore (state g conn)

  -- the store was just made, and holds this: a stop now leaves it, alone, and what it leaves opens as a store
  pub record IsFresh (s : Kept S) (found : Contents) : Type 0 where
    pub holds_is : holds s ≡ found
    pub durable : (left : Contents) → MayLeave s left → left ≡ found
    pub opens : LeavesStore (state g s.conn)

-- ---- a database that was found

-- a connection that is open, between two transactions, on the tables of a schema
pub record IsAt (schema : Schema) (s : State) : Type 0 where
  pub is_open : IsTrue s.is_open
  pub settled : s.committed ≡ s.now
  pub schema_is : s.now.schema ≡ schema

-- what a store over the database holds: nothing where it has no table, what a store's front holds, or what a store holds. No
-- store is made over a database that is none of these
abbrev pub IsHeldIn : Database → Contents → Type 0
IsHeldIn db held =
    (IsFound Fresh db × (held ≡ nothing))
    ⊎ (((log : LogFound) × IsFound (Front log) db × (held ≡ front_in db.trees))
    ⊎ ((log : LogFound) × IsFound (Ours log) db × (held ≡ contents_in db.trees)))

-- what a stop may leave where the tables that the database lacks are made, which opens as a store. Of a database that is a
-- store's, or foreign, there is no such thing
abbrev pub IsMadeOf : Database → Trees → Type 0
IsMadeOf db left =
    OpenAsStore left
    × ((IsFound Fresh db × (contents_in left ≡ nothing))
    ⊎ ((log : LogFound) × IsFound (Front log) db × (contents_in left ≡ front_in db.trees)))

-- a store over whatever a stop leaves, once a connection shows it, holds what a store over what was shown before would
abbrev pub LeavesHeld : State → State → Type 0
LeavesHeld shown s =
    IsTrue shown.is_open → (db : Database) → IsDatabase db → s.may_leave db.trees → (held : Contents) → IsHeldIn shown.now held → IsHeldIn db held

-- a connection on a database that no store takes
pub record ShowsForeign (s : State) : Type 0 where
  pub is_open : IsTrue s.is_open
  pub found : IsFound Foreign s.now

module _ {S : Type 0} (g : Ghosts S) (shown : State) where
  -- the store holds what the connection showed, and a stop now leaves that alone, which opens as a store
  pub record IsAdopted (s : Kept S) : Type 0 where
    pub was_open : IsTrue shown.is_open
    pub from : IsHeldIn shown.now (holds g s)
    pub durable : (left : Contents) → MayLeave g s left → left ≡ holds g s
    pub opens : LeavesStore (state g s.conn)

  -- the connection is given back as it was: in no transaction, and where it is open it shows what it showed. A stop leaves what
  -- it could leave before, or the tables that the database lacked
  pub record IsGivenBack (conn : Held S) : Type 0 where
    pub idle : conn.in_transaction ≡ false
    pub stays : HasCleanDisk (state g conn) → Stays shown (state g conn)
    pub survives : Survives shown (state g conn) (IsMadeOf shown.now)
