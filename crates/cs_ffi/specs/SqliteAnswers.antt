-- What the library answers where it writes a changeset for SQLite's own `apply` (profile of this project over SQLite's
-- "changeset format").
use Rattle.std.specs.Prelude.{◌≡◌, ◌≤◌, ◌⊎◌, ℕ, List, [], ◌∷◌, length, Result, Ok, Err}
use Rattle.std.specs.Global.{Vec}
use Rattle.cs_value.specs.declared.catalog.TableDef.{TableDef}
use Rattle.cs_change.specs.declared.group.Group.{Group}
use Rattle.cs_change.specs.Spelling.{changeset_spelling, FitsChangeset}
use Rattle.cs_normal.specs.Headers.{headers, HaveCatalog}
use Rattle.cs_normalising.specs.NormalFormOf.{IsNormalFormOf}
use Rattle.cs_normal.specs.declared.normal.TableChanges.{TableChanges}
use Rattle.cs_column_bytes.specs.KeyPlaces.{heads_of, for_sqlite, sqlite_spelling, HaveOneOrder, HasTwoOrders}
use Rattle.cs_column_bytes.specs.Steps.{heads_behind}
use Rattle.cs_column_bytes.specs.declared.headers.Header.{Header}
use Rattle.cs_ffi.specs.declared.answer.Answer.{Answer}
use Rattle.cs_ffi.specs.Answers.{no_memory, Spell, Hands}
use Rattle.cs_ffi.specs.NormalAnswers.{no_tables, Declare, DeclareNone, IsFitInput, IsFormRefusal}

-- two headers of one table have its key columns in different orders
abbrev pub key_order : Answer
key_order = record { fault = 54; offset = 0; count = 0 }

-- the bytes declare tables, and the headers of each have the same column bytes
pub record DeclareInOrder (bytes : List ℕ) (tables : List TableDef) : Type 0 where
  pub declares : Declare bytes tables
  pub order : HaveOneOrder (heads_of declares.groups)

-- the bytes declare tables, and two headers of one have other column bytes
pub record DeclareTwoOrders (bytes : List ℕ) : Type 0 where
  pub groups : List Group
  pub spells : Spell bytes groups
  pub catalog : HaveCatalog (headers (groups ∷ []))
  pub orders : HasTwoOrders (heads_of groups)

-- the bytes spell the normal form of what the input spells, but with the column bytes of the headers that declare its
-- tables. The reader takes them, and they are no more than the input's
pub record SpellForSqlite (declared input bytes : List ℕ) : Type 0 where
  pub tables : List TableDef
  pub groups : List Group
  pub normal : List TableChanges
  pub declares : DeclareInOrder declared tables
  pub spells : Spell input groups
  pub form : IsNormalFormOf tables groups normal
  pub spelled : bytes ≡ sqlite_spelling (heads_of declares.declares.groups) normal
  pub taken : FitsChangeset (for_sqlite (heads_of declares.declares.groups) normal)
  pub shorter : length bytes ≤ length (changeset_spelling groups)

-- why there are none: the tables first, then the order of their key columns, then the input
abbrev pub IsSqliteRefusal : List ℕ → List ℕ → Answer → Type 0
IsSqliteRefusal declared input answer =
    (answer ≡ no_memory)
    ⊎ ((answer ≡ no_tables) × DeclareNone declared)
    ⊎ ((answer ≡ key_order) × DeclareTwoOrders declared)
    ⊎ ((tables : List TableDef) × DeclareInOrder declared tables × IsFormRefusal tables input answer)

-- the tables are declared in one order, and the input fits them
pub record CanSpellForSqlite (declared input : List ℕ) : Type 0 where
  pub fit : IsFitInput declared input
  pub order : HaveOneOrder (heads_of fit.declares.groups)

-- the headers in order, or why there are none
abbrev pub GivesHeaders : List Group → Result (Vec Header) Answer → Type 0
GivesHeaders groups (Ok headers) = (heads_behind headers.items ≡ heads_of groups) × HaveOneOrder (heads_of groups)
GivesHeaders groups (Err answer) = (answer ≡ no_memory) ⊎ ((answer ≡ key_order) × HasTwoOrders (heads_of groups))

-- the bytes for SQLite, or why there are none
abbrev pub GivesForSqlite : List ℕ → List ℕ → Result (Vec ℕ) Answer → Type 0
GivesForSqlite declared input (Ok bytes) = SpellForSqlite declared input bytes.items
GivesForSqlite declared input (Err answer) = IsSqliteRefusal declared input answer

-- the answer: the bytes for SQLite are handed over, or it is told why there are none
abbrev pub AnswersForSqlite : List ℕ → List ℕ → List ℕ → List ℕ → Answer → Type 0
AnswersForSqlite declared input before after answer =
    Hands (SpellForSqlite declared input) (IsSqliteRefusal declared input) before after answer
