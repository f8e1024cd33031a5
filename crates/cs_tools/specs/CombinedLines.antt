-- What `combine` writes: the changesets that the input's lines spell, as one, or why there is none (profile of this project over
-- SQLite's changegroup).
use Rattle.std.specs.Prelude.{◌≡◌, ◌≢◌, ◌⊎◌, ℕ, List, [], ◌∷◌, length, Option}
use Rattle.std.specs.List.{AllZip, flat_map}
use Rattle.cs_lines.specs.Lines.{hex_line}
use Rattle.cs_lines.specs.Reading.{AreAllBefore}
use Rattle.cs_lines.specs.Served.{AreAllLines}
use Rattle.cs_lines.specs.declared.serve.TheConstants.{ASKS}
use Rattle.cs_changeset.specs.Reading.{IsChangesetFault}
use Rattle.cs_change.specs.declared.group.Group.{Group}
use Rattle.cs_normal.specs.declared.normal.TableChanges.{TableChanges}
use Rattle.cs_group.specs.Combined.{HasCombineFault, IsCombined}
use Rattle.cs_group.specs.declared.combining.CombineFault.{CombineFault}
use Rattle.cs_group.specs.declared.combining.CombineFault.TheVariants.{Memory}
use Rattle.cs_column_bytes.specs.KeyPlaces.{heads_of}
use Rattle.cs_tools.specs.Faults.{IsBadLine, IsFailure}
use Rattle.cs_tools.specs.SpelledLine.{SpellsChangeset}
use Rattle.cs_tools.specs.WrittenForm.{IsNotWritten, SpellsIn}
use Rattle.cs_tools.specs.declared.fault.ToolFault.{ToolFault}
use Rattle.cs_tools.specs.declared.fault.ToolFault.TheVariants.{Combine}
use Rattle.cs_tools.specs.declared.tool.Form.{Form}

-- each line spells a changeset, in order
abbrev pub SpellChangesets : List (List ℕ) → List (List Group) → Type 0
SpellChangesets lines changesets = AllZip SpellsChangeset lines changesets

-- the bytes spell, in this form, the left fold of consolidation from the empty changeset. It goes over the normal forms of the lines'
-- changesets by the catalog of all their headers
pub record SpellsCombined (form : Form) (lines : List (List ℕ)) (bytes : List ℕ) : Type 0 where
  pub changesets : List (List Group)
  pub both : List TableChanges
  pub read : SpellChangesets lines changesets
  pub combined : IsCombined changesets both
  pub spelled : SpellsIn form (flat_map heads_of changesets) both bytes

-- the text is one line of hex: the spelling of the changesets of all lines of the input, as one
abbrev pub CombinesAll : Form → Option (List ℕ) → List ℕ → Type 0
CombinesAll form input text = (lines : List (List ℕ)) × (bytes : List ℕ)
    × AreAllLines input lines × SpellsCombined form lines bytes × (text ≡ hex_line bytes)

-- ---- why there is none

-- the first of the lines that spells no changeset has this fault
abbrev pub HasBadLine : ToolFault → List (List ℕ) → Type 0
HasBadLine told [] = ⊥
HasBadLine told (line ∷ lines) =
    IsBadLine IsChangesetFault line told ⊎ ((groups : List Group) × SpellsChangeset line groups × HasBadLine told lines)

-- the changesets can't be taken together
abbrev pub AreNotCombined : List (List Group) → ToolFault → Type 0
AreNotCombined changesets told =
    (fault : CombineFault) × HasCombineFault fault changesets × (fault ≢ Memory) × (told ≡ Combine fault)

-- the lines are judged in order, then the changesets, then the form
abbrev pub HasFaultToCombine : Form → List (List ℕ) → ToolFault → Type 0
HasFaultToCombine form lines told =
    HasBadLine told lines
    ⊎ ((changesets : List (List Group)) × SpellChangesets lines changesets × AreNotCombined changesets told)
    ⊎ ((changesets : List (List Group)) × (both : List TableChanges) × SpellChangesets lines changesets
    × IsCombined changesets both × IsNotWritten form (flat_map heads_of changesets) told)

-- a read failed, or there are lines without end, and each line before spells a changeset
abbrev pub FailsToRead : Type 0 → Option (List ℕ) → Option (List ℕ) → Type 0
FailsToRead read_failed input left =
    (lines : List (List ℕ)) × (changesets : List (List Group)) × AreAllBefore input left lines × SpellChangesets lines changesets
    × (read_failed ⊎ (length lines ≡ ASKS))

-- why `combine` writes nothing
abbrev pub RefusesToCombine : Form → Type 0 → Option (List ℕ) → Option (List ℕ) → ToolFault → Type 0
RefusesToCombine form read_failed input left told =
    IsFailure (FailsToRead read_failed input left) told
    ⊎ ((lines : List (List ℕ)) × AreAllLines input lines × HasFaultToCombine form lines told)
