-- What the bytes of a file hold, whose log is empty.
use Rattle.std.specs.Prelude.{ℕ, List, []}
use Rattle.sqlite.specs.Files.{HoldsDatabase}
use Rattle.sqlite.specs.Recovery.{Image}
use Rattle.sqlite.specs.Tree.{Trees}
use Rattle.cs_sql.specs.Opening.{HoldStore, OpenedHolds}
use Rattle.cs_store.specs.Contents.{Contents}

-- the two files of the database
abbrev pub alone : List ℕ → Image
alone bytes = record { log = []; db = bytes }

-- the bytes hold this database, without a log
abbrev pub HoldTrees : List ℕ → Trees → Type 0
HoldTrees bytes db = ∥ HoldsDatabase (alone bytes) db ∥₁

-- a store that is opened in the bytes holds this
abbrev pub OpenTo : List ℕ → Contents → Type 0
OpenTo bytes held = OpenedHolds (alone bytes) held

-- the bytes hold a store's database, without a log, and that holds this
abbrev pub KeepStore : List ℕ → Contents → Type 0
KeepStore bytes held = HoldStore (alone bytes) held
