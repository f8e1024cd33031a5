-- The tables that the headers of a changeset declare.
use Rattle.std.specs.Prelude.{◌≡◌, ℕ, ◌⊎◌, List, [], ◌∷◌, Result, Ok, Err}
use Rattle.cs_change.specs.Spelling.{FitsChangeset, changeset_spelling}
use Rattle.cs_change.specs.declared.group.Group.{Group}
use Rattle.cs_changeset.specs.Reading.{IsChangesetFault}
use Rattle.cs_changeset.specs.declared.fault.Fault.{Fault}
use Rattle.cs_normal.specs.Headers.{HaveCatalog, headers, tables_of_headers}
use Rattle.cs_normal.specs.declared.headers.HeaderFault.{HeaderFault}
use Rattle.cs_normal.specs.declared.headers.HeaderFault.TheVariants as in_headers
use Rattle.cs_value.specs.declared.catalog.TableDef.{TableDef}
use Rattle.cs_embed.specs.Answers.{no_memory, no_tables}
use Rattle.cs_embed.specs.declared.answer.Answer.{Answer}

-- the bytes spell this changeset
abbrev pub Spell : List ℕ → List Group → Type 0
Spell bytes groups = FitsChangeset groups × (bytes ≡ changeset_spelling groups)

-- the headers of the changeset are a catalog's, and these are its tables
abbrev pub HaveTables : List Group → List TableDef → Type 0
HaveTables groups tables = HaveCatalog (headers (groups ∷ [])) × (tables ≡ tables_of_headers (headers (groups ∷ [])))

-- the bytes declare these tables: they spell a changeset whose headers tell of them. Its changes don't matter
abbrev pub DeclareTables : List ℕ → List TableDef → Type 0
DeclareTables bytes tables = (groups : List Group) × Spell bytes groups × HaveTables groups tables

-- the bytes declare none: they spell no changeset, or one whose headers are no catalog's
abbrev pub DeclareNone : List ℕ → Type 0
DeclareNone bytes =
    ((fault : Fault) × (offset : ℕ) × IsChangesetFault fault offset bytes)
    ⊎ ((groups : List Group) × Spell bytes groups × (HaveCatalog (headers (groups ∷ [])) → ⊥))

-- the declared tables, or why there are none
abbrev pub GivesTables : List ℕ → Result (List TableDef) Answer → Type 0
GivesTables bytes (Ok tables) = DeclareTables bytes tables
GivesTables bytes (Err answer) = (answer ≡ no_memory) ⊎ ((answer ≡ no_tables) × DeclareNone bytes)

-- what reading the changeset gives
abbrev pub ReadsDeclaring : List ℕ → Result (List Group) Answer → Type 0
ReadsDeclaring bytes (Ok groups) = Spell bytes groups
ReadsDeclaring bytes (Err answer) =
    (answer ≡ no_memory) ⊎ ((answer ≡ no_tables) × ((fault : Fault) × (offset : ℕ) × IsChangesetFault fault offset bytes))

-- what making the catalog of its headers gives
abbrev pub GivesCatalog : List Group → Result (List TableDef) Answer → Type 0
GivesCatalog groups (Ok tables) = HaveTables groups tables
GivesCatalog groups (Err answer) = (answer ≡ no_memory) ⊎ ((answer ≡ no_tables) × (HaveCatalog (headers (groups ∷ [])) → ⊥))

-- what is told of headers that are no catalog's
abbrev pub of_headers : HeaderFault → Answer
of_headers in_headers.Memory = no_memory
of_headers in_headers.Shape = no_tables
of_headers in_headers.BadCatalog = no_tables
