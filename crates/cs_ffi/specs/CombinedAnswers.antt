-- What the library answers where it takes changesets together, or takes one back.
use Rattle.std.specs.Prelude.{◌≡◌, ◌≢◌, ℕ, ◌+◌, ◌⊎◌, List, [], ◌∷◌, ◌++◌, length, map, sum, Result, Ok, Err}
use Rattle.std.specs.Global.{Vec}
use Rattle.std.specs.List.{flat_map, AllByRecursion}
use Rattle.cs_change.specs.declared.group.Group.{Group}
use Rattle.cs_change.specs.Spelling.{changeset_spelling, FitsChangeset}
use Rattle.cs_changeset.specs.Reading.{IsChangesetFault}
use Rattle.cs_changeset.specs.declared.fault.Fault.{Fault}
use Rattle.cs_normal.specs.Headers.{headers, HaveCatalog}
use Rattle.cs_normal.specs.Normal.{normal_spelling}
use Rattle.cs_normalising.specs.NormalFormOf.{AreFit}
use Rattle.cs_normal.specs.declared.headers.HeaderFault.{HeaderFault}
use Rattle.cs_normal.specs.declared.headers.HeaderFault.TheVariants as in_headers
use Rattle.cs_normal.specs.declared.normal.TableChanges.{TableChanges}
use Rattle.cs_group.specs.Combined.{tables_of, IsCombined, HasCombineFault}
use Rattle.cs_group.specs.Inverse.{inverse_changeset}
use Rattle.cs_group.specs.declared.combining.CombineFault.{CombineFault}
use Rattle.cs_group.specs.declared.combining.CombineFault.TheVariants.{Memory, Headers, Unfit as NoForm}
use Rattle.cs_ffi.specs.declared.answer.Answer.{Answer}
use Rattle.cs_ffi.specs.Answers.{no_memory, refused, Spell, IsRefusal, Hands}
use Rattle.cs_normalising.specs.Codes.{unfit_code}

-- the number of the reason why there is no catalog of the headers
abbrev pub header_number : HeaderFault → ℕ
header_number in_headers.Memory = 1
header_number in_headers.Shape = 31
header_number in_headers.BadCatalog = 50

-- the number of the reason why changesets can't be taken together
abbrev pub combine_number : CombineFault → ℕ
combine_number Memory = 1
combine_number (Headers fault) = header_number fault
combine_number (NoForm fault) = unfit_code fault

abbrev pub combine_answer : CombineFault → Answer
combine_answer fault = record { fault = combine_number fault; offset = 0; count = 0 }

-- the lengths don't add up to the bytes
abbrev pub wrong_lengths : Answer
wrong_lengths = record { fault = 51; offset = 0; count = 0 }

-- the spellings of changesets, one after another
abbrev pub spellings : List (List Group) → List ℕ
spellings changesets = flat_map changeset_spelling changesets

-- how long each of them is
abbrev pub spelled_lengths : List (List Group) → List ℕ
spelled_lengths changesets = map (λ groups. length (changeset_spelling groups)) changesets

-- the parts of the bytes, as long as the lengths say, spell these changesets
pub record ArePartsOf (lengths bytes : List ℕ) (changesets : List (List Group)) : Type 0 where
  pub fit : AllByRecursion FitsChangeset changesets
  pub spelled : bytes ≡ spellings changesets
  pub parts : lengths ≡ spelled_lengths changesets

-- behind parts that spell changesets stands one that has this fault; its offset is counted from the front of all bytes
pub record IsPartFault (lengths bytes : List ℕ) (fault : Fault) (offset : ℕ) : Type 0 where
  pub before : List (List Group)
  pub part : List ℕ
  pub rest : List ℕ
  pub others : List ℕ
  pub inner : ℕ
  pub fit : AllByRecursion FitsChangeset before
  pub spelled : bytes ≡ spellings before ++ (part ++ rest)
  pub parts : lengths ≡ spelled_lengths before ++ (length part ∷ others)
  pub told : IsChangesetFault fault inner part
  pub there : offset ≡ length (spellings before) + inner

-- the first part that spells no changeset, or want of memory
abbrev pub IsPartRefusal : List ℕ → List ℕ → Answer → Type 0
IsPartRefusal lengths bytes answer =
    (answer ≡ no_memory)
    ⊎ ((fault : Fault) × (offset : ℕ) × IsPartFault lengths bytes fault offset × (answer ≡ refused fault offset))

-- what reading one part gives that begins at an offset
abbrev pub ReadsPart : ℕ → List ℕ → Result (List Group) Answer → Type 0
ReadsPart at part (Ok groups) = Spell part groups
ReadsPart at part (Err answer) =
    (answer ≡ no_memory)
    ⊎ ((fault : Fault) × (inner : ℕ) × IsChangesetFault fault inner part × (answer ≡ refused fault (at + inner)))

-- this changeset is read, or memory is wanting
abbrev pub FindsPart : Result (List Group) Answer → List Group → Type 0
FindsPart (Ok found) groups = found ≡ groups
FindsPart (Err answer) groups = answer ≡ no_memory

-- what reading all parts gives
abbrev pub ReadsAll : List ℕ → List ℕ → Result (Vec (List Group)) Answer → Type 0
ReadsAll lengths bytes (Ok changesets) = ArePartsOf lengths bytes changesets.items
ReadsAll lengths bytes (Err answer) = IsPartRefusal lengths bytes answer

-- these changesets are read, or memory is wanting
abbrev pub FindsAll : Result (Vec (List Group)) Answer → List (List Group) → Type 0
FindsAll (Ok found) changesets = found.items ≡ changesets
FindsAll (Err answer) changesets = answer ≡ no_memory

-- the changesets can't be taken together, and the answer says why
pub record NotCombined (changesets : List (List Group)) (answer : Answer) : Type 0 where
  pub fault : CombineFault
  pub told : HasCombineFault fault changesets
  pub number : answer ≡ combine_answer fault

-- the changesets can be taken together: there is a catalog of their headers, and each changeset fits it
pub record CanCombine (changesets : List (List Group)) : Type 0 where
  pub catalog : HaveCatalog (headers changesets)
  pub fit : AllByRecursion (AreFit (tables_of changesets)) changesets

-- the inputs are cut into changesets that can be taken together
pub record AreFitInputs (lengths inputs : List ℕ) : Type 0 where
  pub changesets : List (List Group)
  pub cut : ArePartsOf lengths inputs changesets
  pub can : CanCombine changesets

-- the bytes are the spelling of the changesets that the inputs spell, taken together
pub record SpellCombined (lengths inputs bytes : List ℕ) : Type 0 where
  pub changesets : List (List Group)
  pub both : List TableChanges
  pub cut : ArePartsOf lengths inputs changesets
  pub combined : IsCombined changesets both
  pub spelled : bytes ≡ normal_spelling both

-- why there is none: the lengths first, then the parts in order, then the changesets
abbrev pub IsCombineRefusal : List ℕ → List ℕ → Answer → Type 0
IsCombineRefusal lengths inputs answer =
    (answer ≡ no_memory)
    ⊎ ((answer ≡ wrong_lengths) × (sum lengths ≢ length inputs))
    ⊎ ((sum lengths ≡ length inputs) × IsPartRefusal lengths inputs answer)
    ⊎ ((changesets : List (List Group)) × ArePartsOf lengths inputs changesets × NotCombined changesets answer)

-- the changesets taken together, or why they can't be
abbrev pub GivesCombined : List ℕ → List ℕ → Result (List ℕ) Answer → Type 0
GivesCombined lengths inputs (Ok bytes) = SpellCombined lengths inputs bytes
GivesCombined lengths inputs (Err answer) = IsCombineRefusal lengths inputs answer

-- the answer: the changesets taken together are handed over, or it is told why they can't be
abbrev pub AnswersCombined : List ℕ → List ℕ → List ℕ → List ℕ → Answer → Type 0
AnswersCombined lengths inputs before after answer =
    Hands (SpellCombined lengths inputs) (IsCombineRefusal lengths inputs) before after answer

-- the input spells a changeset that can be brought into normal form by the tables of its own headers
abbrev pub IsFitAlone : List ℕ → Type 0
IsFitAlone input = (groups : List Group) × Spell input groups × CanCombine (groups ∷ [])

-- the bytes are the spelling of the inverse of the changeset that the input spells
pub record SpellInverse (input bytes : List ℕ) : Type 0 where
  pub groups : List Group
  pub alone : List TableChanges
  pub spells : Spell input groups
  pub combined : IsCombined (groups ∷ []) alone
  pub spelled : bytes ≡ normal_spelling (inverse_changeset alone)

-- why a changeset has no normal form by its own tables: the bytes first, then the changeset
abbrev pub IsAloneRefusal : List ℕ → Answer → Type 0
IsAloneRefusal input answer =
    IsRefusal input answer ⊎ ((groups : List Group) × Spell input groups × NotCombined (groups ∷ []) answer)

-- the inverse, or why there is none
abbrev pub GivesInverse : List ℕ → Result (List TableChanges) Answer → Type 0
GivesInverse input (Ok inverse) = SpellInverse input (normal_spelling inverse)
GivesInverse input (Err answer) = IsAloneRefusal input answer

-- the answer: the inverse is handed over, or it is told why there is none
abbrev pub AnswersInverse : List ℕ → List ℕ → List ℕ → Answer → Type 0
AnswersInverse input before after answer =
    Hands (SpellInverse input) (IsAloneRefusal input) before after answer
