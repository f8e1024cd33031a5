-- What `rebase` writes: the changeset of one line, rebased over the blob of the next, or why there is none. (Profile of this project
-- over SQLite's "Session Extension", rebasing changesets.)
use Rattle.std.specs.Prelude.{◌≡◌, ◌⊎◌, ℕ, List, [], ◌∷◌, ◌++◌, Option}
use Rattle.cs_lines.specs.Lines.{hex_line}
use Rattle.cs_lines.specs.Reading.{StaysInLine}
use Rattle.cs_blob.specs.declared.blob.BlobGroup.{BlobGroup}
use Rattle.cs_change.specs.declared.group.Group.{Group}
use Rattle.cs_group.specs.Combined.{IsCombined}
use Rattle.cs_normal.specs.declared.normal.TableChanges.{TableChanges}
use Rattle.cs_rebaser.specs.Rebased.{HasEachOnce, HasWrongShape, HaveShapes, rebased}
use Rattle.cs_rebaser.specs.declared.faults.ConfigureFault.TheVariants.{KeyTwice}
use Rattle.cs_rebaser.specs.declared.faults.RebaseFault.TheVariants.{WrongShape}
use Rattle.cs_blob.specs.Reading.{IsBlobFault}
use Rattle.cs_changeset.specs.Reading.{IsChangesetFault}
use Rattle.cs_column_bytes.specs.KeyPlaces.{Head, heads_of, blob_heads_of}
use Rattle.cs_tools.specs.SpelledLine.{SpellsBlob, SpellsChangeset, TakesNext}
use Rattle.cs_tools.specs.CombinedLines.{AreNotCombined}
use Rattle.cs_tools.specs.Faults.{IsBadNext, IsFailure}
use Rattle.cs_tools.specs.WrittenForm.{IsNotWritten, SpellsIn}
use Rattle.cs_tools.specs.declared.fault.ToolFault.{ToolFault}
use Rattle.cs_tools.specs.declared.fault.ToolFault.TheVariants.{Configure, Rebase}
use Rattle.cs_tools.specs.declared.tool.Form.{Form}

-- no place has two entries in the blob, its tables have the local ones' shapes, and this is the local changeset rebased over
-- it
abbrev pub IsRebased : List BlobGroup → List TableChanges → List TableChanges → Type 0
IsRebased blob local made = HasEachOnce blob × HaveShapes blob local × (made ≡ rebased blob local)

-- the next line spells this changeset, and the line behind it this blob; the rest of the lines is left
pub record TakesBoth (old new : Option (List ℕ)) (groups : List Group) (blob : List BlobGroup) : Type 0 where
  pub first : List ℕ
  pub second : List ℕ
  pub between : Option (List ℕ)
  pub takes_first : TakesNext old between first
  pub changeset : SpellsChangeset first groups
  pub takes_second : TakesNext between new second
  pub conflicts : SpellsBlob second blob

-- the headers of both
abbrev pub heads_of_both : List Group → List BlobGroup → List Head
heads_of_both groups blob = heads_of groups ++ blob_heads_of blob

-- the changeset of the next line has this normal form by the catalog of its own headers. It is rebased over the blob of the line behind it.
-- The bytes spell what comes out, in this form
pub record Rebases (form : Form) (old new : Option (List ℕ)) (bytes : List ℕ) : Type 0 where
  pub groups : List Group
  pub local : List TableChanges
  pub blob : List BlobGroup
  pub made : List TableChanges
  pub lines : TakesBoth old new groups blob
  pub normal : IsCombined (groups ∷ []) local
  pub rebased : IsRebased blob local made
  pub spelled : SpellsIn form (heads_of_both groups blob) made bytes

-- the text is one line of hex: the rebased changeset's spelling
abbrev pub RebasesLines : Form → Option (List ℕ) → Option (List ℕ) → List ℕ → Type 0
RebasesLines form old new text = (bytes : List ℕ) × Rebases form old new bytes × (text ≡ hex_line bytes)

-- ---- why there is none

-- the next line spells this changeset
abbrev pub TakesChangeset : Option (List ℕ) → Option (List ℕ) → List Group → Type 0
TakesChangeset old new groups = (line : List ℕ) × TakesNext old new line × SpellsChangeset line groups

-- two entries of the blob are of one place; or none are, and it has a table in another shape
abbrev pub IsNotRebased : List BlobGroup → List TableChanges → ToolFault → Type 0
IsNotRebased blob local told =
    ((HasEachOnce blob → ⊥) × (told ≡ Configure KeyTwice))
    ⊎ (HasEachOnce blob × HasWrongShape blob local × (told ≡ Rebase WrongShape))

-- of a changeset in normal form and a blob, the entries are judged, then the shapes, then the form
abbrev pub HasFaultToRebase : Form → List Group → List TableChanges → List BlobGroup → ToolFault → Type 0
HasFaultToRebase form groups local blob told =
    IsNotRebased blob local told
    ⊎ ((made : List TableChanges) × IsRebased blob local made × IsNotWritten form (heads_of_both groups blob) told)

-- a read may fail within the next line; or, where that spells a changeset with a normal form, within the line behind it
abbrev pub StopsWithin : Option (List ℕ) → Option (List ℕ) → Type 0
StopsWithin old new =
    StaysInLine old new
    ⊎ ((between : Option (List ℕ)) × (groups : List Group) × (local : List TableChanges) × TakesChangeset old between groups
    × IsCombined (groups ∷ []) local × StaysInLine between new)

-- why `rebase` writes nothing: the first line is judged whole before the second is read, and both before they are taken together
abbrev pub RefusesToRebase : Form → Type 0 → Option (List ℕ) → Option (List ℕ) → ToolFault → Type 0
RefusesToRebase form read_failed old new told =
    IsFailure (read_failed × StopsWithin old new) told
    ⊎ IsBadNext IsChangesetFault old new told
    ⊎ ((groups : List Group) × TakesChangeset old new groups × AreNotCombined (groups ∷ []) told)
    ⊎ ((between : Option (List ℕ)) × (groups : List Group) × (local : List TableChanges) × TakesChangeset old between groups
    × IsCombined (groups ∷ []) local × IsBadNext IsBlobFault between new told)
    ⊎ ((groups : List Group) × (local : List TableChanges) × (blob : List BlobGroup) × TakesBoth old new groups blob
    × IsCombined (groups ∷ []) local × HasFaultToRebase form groups local blob told)
