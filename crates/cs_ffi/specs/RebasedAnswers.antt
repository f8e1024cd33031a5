-- What the library answers where it rebases a changeset over a blob (profile of this project over SQLite's "Session
-- Extension", rebasing changesets).
use Rattle.std.specs.Prelude.{◌≡◌, ℕ, ◌+◌, ◌⊎◌, List, [], ◌∷◌, length, Result, Ok, Err}
use Rattle.cs_change.specs.declared.group.Group.{Group}
use Rattle.cs_changeset.specs.declared.fault.Fault.{Fault}
use Rattle.cs_normal.specs.Normal.{normal_spelling}
use Rattle.cs_normal.specs.declared.normal.TableChanges.{TableChanges}
use Rattle.cs_group.specs.Combined.{IsCombined}
use Rattle.cs_blob.specs.Reading.{IsBlobFault}
use Rattle.cs_blob.specs.Spelling.{blob_spelling, FitsBlob}
use Rattle.cs_blob.specs.declared.blob.BlobGroup.{BlobGroup}
use Rattle.cs_rebaser.specs.Faults.{IsConfigureFault, IsRebaseFault}
use Rattle.cs_rebaser.specs.Rebased.{HasEachOnce, HaveShapes, rebased}
use Rattle.cs_rebaser.specs.declared.faults.ConfigureFault.{ConfigureFault}
use Rattle.cs_rebaser.specs.declared.faults.ConfigureFault.TheVariants.{KeyTwice}
use Rattle.cs_rebaser.specs.declared.faults.ConfigureFault.TheVariants as configuring
use Rattle.cs_rebaser.specs.declared.faults.RebaseFault.{RebaseFault}
use Rattle.cs_rebaser.specs.declared.faults.RebaseFault.TheVariants.{WrongShape}
use Rattle.cs_rebaser.specs.declared.faults.RebaseFault.TheVariants as rebasing
use Rattle.cs_ffi.specs.declared.answer.Answer.{Answer}
use Rattle.cs_ffi.specs.Answers.{no_memory, refused, Spell, Hands}
use Rattle.cs_ffi.specs.CombinedAnswers.{CanCombine, IsAloneRefusal}

-- two entries of the blob are of one table and key
abbrev pub key_twice : Answer
key_twice = record { fault = 52; offset = 0; count = 0 }

-- a group of the blob has the name of a table of the changeset, and another shape
abbrev pub wrong_shape : Answer
wrong_shape = record { fault = 53; offset = 0; count = 0 }

-- what is told of a blob that no rebaser takes
abbrev pub configure_answer : ConfigureFault → Answer
configure_answer configuring.Memory = no_memory
configure_answer KeyTwice = key_twice

-- what is told of a changeset that can't be rebased
abbrev pub rebase_answer : RebaseFault → Answer
rebase_answer rebasing.Memory = no_memory
rebase_answer WrongShape = wrong_shape

-- the input spells a changeset, and this is its normal form by the tables that its own headers tell of
pub record SpellAlone (input : List ℕ) (alone : List TableChanges) : Type 0 where
  pub groups : List Group
  pub spells : Spell input groups
  pub combined : IsCombined (groups ∷ []) alone

-- the bytes spell this blob
abbrev pub SpellBlob : List ℕ → List BlobGroup → Type 0
SpellBlob bytes blob = FitsBlob blob × (bytes ≡ blob_spelling blob)

-- the first fault of a blob's bytes, or want of memory; the offset is counted from the front of what stands before them
abbrev pub IsBlobRefusal : ℕ → List ℕ → Answer → Type 0
IsBlobRefusal before bytes answer =
    (answer ≡ no_memory)
    ⊎ ((fault : Fault) × (offset : ℕ) × IsBlobFault fault offset bytes × (answer ≡ refused fault (before + offset)))

-- no rebaser takes the blob, and the answer says why
pub record NotConfigured (blob : List BlobGroup) (answer : Answer) : Type 0 where
  pub fault : ConfigureFault
  pub told : IsConfigureFault fault blob
  pub number : answer ≡ configure_answer fault

-- a rebaser takes the blob, but the changeset can't be rebased, and the answer says why
pub record NotRebased (blob : List BlobGroup) (alone : List TableChanges) (answer : Answer) : Type 0 where
  pub once : HasEachOnce blob
  pub fault : RebaseFault
  pub told : IsRebaseFault fault blob alone
  pub number : answer ≡ rebase_answer fault

-- the local bytes and the blob's can be rebased. The local ones can be brought into normal form by the tables of their own
-- headers. Each place has one entry at most, and the blob's groups have the shapes of the tables
pub record CanRebase (local bytes : List ℕ) : Type 0 where
  pub groups : List Group
  pub blob : List BlobGroup
  pub spells : Spell local groups
  pub can : CanCombine (groups ∷ [])
  pub spells_blob : SpellBlob bytes blob
  pub once : HasEachOnce blob
  pub shapes : (alone : List TableChanges) → IsCombined (groups ∷ []) alone → HaveShapes blob alone

-- the made bytes are the spelling of the local changeset, in normal form, over the blob
pub record SpellRebased (local bytes made : List ℕ) : Type 0 where
  pub alone : List TableChanges
  pub blob : List BlobGroup
  pub spells : SpellAlone local alone
  pub spells_blob : SpellBlob bytes blob
  pub once : HasEachOnce blob
  pub shapes : HaveShapes blob alone
  pub spelled : made ≡ normal_spelling (rebased blob alone)

-- what is wrong with a blob beside a local changeset that is in order
abbrev pub IsBesideRefusal : ℕ → List TableChanges → List ℕ → Answer → Type 0
IsBesideRefusal before alone bytes answer =
    IsBlobRefusal before bytes answer
    ⊎ ((blob : List BlobGroup) × SpellBlob bytes blob × (NotConfigured blob answer ⊎ NotRebased blob alone answer))

-- why there is none: the local bytes first, then the local changeset, then the blob's bytes, its entries, and its shapes
abbrev pub IsRebaseRefusal : List ℕ → List ℕ → Answer → Type 0
IsRebaseRefusal local bytes answer =
    IsAloneRefusal local answer
    ⊎ ((alone : List TableChanges) × SpellAlone local alone × IsBesideRefusal (length local) alone bytes answer)

-- what reading the blob gives that stands behind so many other bytes
abbrev pub ReadsBehind : ℕ → List ℕ → Result (List BlobGroup) Answer → Type 0
ReadsBehind before bytes (Ok blob) = SpellBlob bytes blob
ReadsBehind before bytes (Err answer) = IsBlobRefusal before bytes answer

-- the rebased changeset, or why there is none
abbrev pub GivesRebased : List ℕ → List ℕ → Result (List TableChanges) Answer → Type 0
GivesRebased local bytes (Ok made) = SpellRebased local bytes (normal_spelling made)
GivesRebased local bytes (Err answer) = IsRebaseRefusal local bytes answer

-- the answer: the rebased changeset is handed over, or it is told why there is none
abbrev pub AnswersRebased : List ℕ → List ℕ → List ℕ → List ℕ → Answer → Type 0
AnswersRebased local bytes before after answer =
    Hands (SpellRebased local bytes) (IsRebaseRefusal local bytes) before after answer
