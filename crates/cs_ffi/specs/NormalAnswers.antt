-- What the library answers where it brings a changeset into normal form.
use Rattle.std.specs.Prelude.{◌≡◌, ℕ, ◌≤◌, ◌⊎◌, List, [], ◌∷◌, length, Result, Ok, Err}
use Rattle.cs_value.specs.declared.catalog.TableDef.{TableDef}
use Rattle.cs_change.specs.declared.group.Group.{Group}
use Rattle.cs_change.specs.Spelling.{changeset_spelling, FitsChangeset}
use Rattle.cs_changeset.specs.Reading.{IsChangesetFault}
use Rattle.cs_changeset.specs.declared.fault.Fault.{Fault}
use Rattle.cs_normal.specs.Headers.{headers, HaveCatalog}
use Rattle.cs_normal.specs.Normal.{groups_of, normal_spelling}
use Rattle.cs_normalising.specs.NormalFormOf.{AreFit, IsNormalFormOf, IsUnfit}
use Rattle.cs_normal.specs.declared.headers.HeaderFault.{HeaderFault}
use Rattle.cs_normal.specs.declared.headers.HeaderFault.TheVariants as in_headers
use Rattle.cs_normal.specs.declared.normal.TableChanges.{TableChanges}
use Rattle.cs_normalising.specs.declared.unfit.Unfit.{Unfit}
use Rattle.cs_normalising.specs.Codes.{unfit_code}
use Rattle.cs_group.specs.Combined.{tables_of}
use Rattle.cs_ffi.specs.declared.answer.Answer.{Answer}
use Rattle.cs_ffi.specs.Answers.{no_memory, Spell, IsRefusal, Hands}

abbrev pub unfit_answer : Unfit → Answer
unfit_answer fault = record { fault = unfit_code fault; offset = 0; count = 0 }

-- the first bytes declare no tables
abbrev pub no_tables : Answer
no_tables = record { fault = 50; offset = 0; count = 0 }

-- what is told of headers that are no catalog's
abbrev pub undeclared : HeaderFault → Answer
undeclared in_headers.Memory = no_memory
undeclared in_headers.Shape = no_tables
undeclared in_headers.BadCatalog = no_tables

-- the bytes declare these tables: they spell a changeset whose headers tell of them; its changes don't matter
pub record Declare (bytes : List ℕ) (tables : List TableDef) : Type 0 where
  pub groups : List Group
  pub spells : Spell bytes groups
  pub catalog : HaveCatalog (headers (groups ∷ []))
  pub are : tables ≡ tables_of (groups ∷ [])

-- the bytes declare none: they spell no changeset, or one whose headers are no catalog's
abbrev pub DeclareNone : List ℕ → Type 0
DeclareNone bytes =
    ((fault : Fault) × (offset : ℕ) × IsChangesetFault fault offset bytes)
    ⊎ ((groups : List Group) × Spell bytes groups × (HaveCatalog (headers (groups ∷ [])) → ⊥))

-- what reading the changeset gives whose headers declare tables
abbrev pub ReadsDeclaring : List ℕ → Result (List Group) Answer → Type 0
ReadsDeclaring bytes (Ok groups) = Spell bytes groups
ReadsDeclaring bytes (Err answer) =
    (answer ≡ no_memory)
    ⊎ ((answer ≡ no_tables) × ((fault : Fault) × (offset : ℕ) × IsChangesetFault fault offset bytes))

-- what making the catalog of its headers gives
abbrev pub GivesTables : List Group → Result (List TableDef) Answer → Type 0
GivesTables groups (Ok tables) = HaveCatalog (headers (groups ∷ [])) × (tables ≡ tables_of (groups ∷ []))
GivesTables groups (Err answer) =
    (answer ≡ no_memory) ⊎ ((answer ≡ no_tables) × (HaveCatalog (headers (groups ∷ [])) → ⊥))

-- the input spells a changeset that fits the declared tables
pub record IsFitInput (declared input : List ℕ) : Type 0 where
  pub tables : List TableDef
  pub groups : List Group
  pub declares : Declare declared tables
  pub spells : Spell input groups
  pub fit : AreFit tables groups

-- nothing is wrong, or memory is wanting
abbrev pub TellsNoFault : Answer → Type 0
TellsNoFault answer = (answer.fault ≡ 0) ⊎ (answer ≡ no_memory)

-- the bytes are the spelling of the normal form of this changeset by a catalog, which has no table without changes. The
-- reader takes them, and they are no more than the changeset's
pub record SpellForm (tables : List TableDef) (groups : List Group) (bytes : List ℕ) : Type 0 where
  pub normal : List TableChanges
  pub form : IsNormalFormOf tables groups normal
  pub spelled : bytes ≡ normal_spelling normal
  pub taken : FitsChangeset (groups_of normal)
  pub shorter : length bytes ≤ length (changeset_spelling groups)

-- the same of the changeset that the input spells, by the declared tables
pub record SpellNormal (declared input bytes : List ℕ) : Type 0 where
  pub tables : List TableDef
  pub groups : List Group
  pub declares : Declare declared tables
  pub spells : Spell input groups
  pub form : SpellForm tables groups bytes

-- the input spells a changeset that has no normal form by these tables
pub record HasNoForm (tables : List TableDef) (input : List ℕ) (answer : Answer) : Type 0 where
  pub groups : List Group
  pub fault : Unfit
  pub spells : Spell input groups
  pub told : IsUnfit fault tables groups
  pub number : answer ≡ unfit_answer fault

-- what is wrong with the input beside these tables: its bytes, then its changeset
abbrev pub IsFormRefusal : List TableDef → List ℕ → Answer → Type 0
IsFormRefusal tables input answer = IsRefusal input answer ⊎ HasNoForm tables input answer

-- why there is no normal form: the tables first, then the input
abbrev pub IsNormalRefusal : List ℕ → List ℕ → Answer → Type 0
IsNormalRefusal declared input answer =
    (answer ≡ no_memory)
    ⊎ ((answer ≡ no_tables) × DeclareNone declared)
    ⊎ ((tables : List TableDef) × Declare declared tables × IsFormRefusal tables input answer)

-- the normal form of what the input spells, by these tables, or why there is none
abbrev pub GivesForm : List TableDef → List ℕ → Result (List TableChanges) Answer → Type 0
GivesForm tables input (Ok normal) = (groups : List Group) × Spell input groups × IsNormalFormOf tables groups normal
    × (length (normal_spelling normal) ≤ length (changeset_spelling groups))
GivesForm tables input (Err answer) = IsFormRefusal tables input answer

-- the normal form by the declared tables, or why there is none
abbrev pub GivesNormal : List ℕ → List ℕ → Result (List TableChanges) Answer → Type 0
GivesNormal declared input (Ok normal) = SpellNormal declared input (normal_spelling normal)
GivesNormal declared input (Err answer) = IsNormalRefusal declared input answer

-- the answer: the normal form is handed over, or it is told why there is none
abbrev pub AnswersNormal : List ℕ → List ℕ → List ℕ → List ℕ → Answer → Type 0
AnswersNormal declared input before after answer =
    Hands (SpellNormal declared input) (IsNormalRefusal declared input) before after answer
