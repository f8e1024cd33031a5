-- What `show --file` and `combine --file` write: what the files at the paths hold, as their bytes; or why there is no such thing.
use Rattle.std.specs.Prelude.{◌≡◌, ◌⊎◌, ℕ, List, [], ◌∷◌, Option, Some, IfSome}
use Rattle.std.specs.List.{AllZip, flat_map}
use Rattle.cs_blob.specs.Reading.{IsBlobFault}
use Rattle.cs_blob.specs.Spelling.{FitsBlob, blob_spelling}
use Rattle.cs_blob.specs.declared.blob.BlobGroup.{BlobGroup}
use Rattle.cs_change.specs.Spelling.{FitsChangeset, changeset_spelling}
use Rattle.cs_change.specs.declared.group.Group.{Group}
use Rattle.cs_changeset.specs.Reading.{IsChangesetFault}
use Rattle.cs_changeset.specs.declared.fault.Fault.{Fault}
use Rattle.cs_changeset.specs.declared.fault.CodecFault.TheVariants.{At}
use Rattle.cs_column_bytes.specs.KeyPlaces.{heads_of}
use Rattle.cs_group.specs.Combined.{IsCombined}
use Rattle.cs_lines.specs.Lines.{hex_line}
use Rattle.cs_normal.specs.declared.normal.TableChanges.{TableChanges}
use Rattle.cs_text.specs.Text.{blob_text, changeset_text}
use Rattle.cs_tools.specs.CombinedLines.{AreNotCombined}
use Rattle.cs_tools.specs.Faults.{IsFailure, IsOfNoLine}
use Rattle.cs_tools.specs.SpelledLine.{Spells}
use Rattle.cs_tools.specs.WrittenForm.{IsNotWritten, SpellsIn}
use Rattle.cs_tools.specs.declared.fault.ToolFault.{ToolFault}
use Rattle.cs_tools.specs.declared.fault.ToolFault.TheVariants.{Codec, Memory}
use Rattle.cs_tools.specs.declared.input_files.InputFiles.{Ghosts}
use Rattle.cs_tools.specs.declared.show.Shown.{Shown}
use Rattle.cs_tools.specs.declared.show.Shown.TheVariants.{Blob, Changeset}
use Rattle.cs_tools.specs.declared.tool.Form.{Form}

-- what is known of a file's reader: the bytes that remain and how many it holds, where these are known, and whether a read failed
abbrev pub Reading : Type 0 → Type 1
Reading I = record { remaining : I → Option (List ℕ); consumable_len : I → Option ℕ; failed : I → Type 0 }

-- `files` opens files, whose readers are read so
module _ {F I : Type 0} (reads : Reading I) (g : Ghosts F I) (files : F) where
  -- the file at the path held these bytes, where those are known
  abbrev pub HeldAt : List ℕ → List ℕ → Type 0
  HeldAt path bytes = (input : I) × g.opened files path input × IfSome (reads.remaining input) (λ held. bytes ≡ held)

  -- it wasn't opened, or a read of it failed
  abbrev pub IsUnread : List ℕ → Type 0
  IsUnread path = g.unopened files path ⊎ ((input : I) × (last : I) × g.opened files path input × reads.failed last)

  -- it spelled this thing, which is in range
  abbrev pub SpelledAt : {A : Type 0} → (A → Type 0) → (A → List ℕ) → List ℕ → A → Type 0
  SpelledAt Fits spelling path thing = (bytes : List ℕ) × HeldAt path bytes × Spells Fits spelling bytes thing

  abbrev pub ChangesetAt : List ℕ → List Group → Type 0
  ChangesetAt path groups = SpelledAt FitsChangeset changeset_spelling path groups

  -- want of memory, or it is unread, or its bytes have this fault, by what is a fault of the format
  abbrev pub IsBadFile : (Fault → ℕ → List ℕ → Type 0) → List ℕ → ToolFault → Type 0
  IsBadFile IsFault path told =
      IsFailure (IsUnread path) told
      ⊎ ((input : I) × (fault : Fault) × (offset : ℕ) × g.opened files path input
      × IfSome (reads.remaining input) (λ bytes. IsFault fault offset bytes) × (told ≡ Codec (At fault offset)))

  -- ---- `show`

  -- the text of what the file spelled
  abbrev pub ShowsFile : Shown → List ℕ → List ℕ → Type 0
  ShowsFile Changeset path text = (groups : List Group) × ChangesetAt path groups × (text ≡ changeset_text groups)
  ShowsFile Blob path text =
      (blob : List BlobGroup) × SpelledAt FitsBlob blob_spelling path blob × (text ≡ blob_text blob)

  -- why there is none
  abbrev pub RefusesFile : Shown → List ℕ → ToolFault → Type 0
  RefusesFile Changeset path told = IsBadFile IsChangesetFault path told
  RefusesFile Blob path told = IsBadFile IsBlobFault path told

  -- ---- `combine`

  -- the text is one line of hex: the spelling, in this form, of the changesets of all files, as one
  pub record CombinesFiles (form : Form) (paths : List (List ℕ)) (text : List ℕ) : Type 0 where
    pub changesets : List (List Group)
    pub both : List TableChanges
    pub bytes : List ℕ
    pub read : AllZip ChangesetAt paths changesets
    pub combined : IsCombined changesets both
    pub spelled : SpellsIn form (flat_map heads_of changesets) both bytes
    pub written : text ≡ hex_line bytes

  -- the first of the files that spells no changeset is the reason
  abbrev pub HasBadFile : ToolFault → List (List ℕ) → Type 0
  HasBadFile told [] = ⊥
  HasBadFile told (path ∷ paths) =
      IsBadFile IsChangesetFault path told ⊎ ((groups : List Group) × ChangesetAt path groups × HasBadFile told paths)

  -- why `combine` writes nothing: the files are judged in order, then the changesets, then the form
  abbrev pub RefusesFiles : Form → List (List ℕ) → ToolFault → Type 0
  RefusesFiles form paths told =
      (told ≡ Memory)
      ⊎ HasBadFile told paths
      ⊎ ((changesets : List (List Group)) × AllZip ChangesetAt paths changesets × AreNotCombined changesets told)
      ⊎ ((changesets : List (List Group)) × (both : List TableChanges) × AllZip ChangesetAt paths changesets
      × IsCombined changesets both × IsNotWritten form (flat_map heads_of changesets) told)

-- ---- laws, for whatever files told

module _ {F I : Type 0} (reads : Reading I) (g : Ghosts F I) where
  -- each reader of the file at this path has these bytes
  abbrev pub IsFile : F → List ℕ → List ℕ → Type 0
  IsFile files path bytes = (input : I) → g.opened files path input → reads.remaining input ≡ Some bytes

  -- a file has one text that `show` owes
  abbrev pub OneShownFile : Type 0
  OneShownFile =
      (files : F) (shown : Shown) (path bytes text other : List ℕ)
      → IsFile files path bytes
      → ShowsFile reads g files shown path text
      → ShowsFile reads g files shown path other
      → text ≡ other

  -- and one fault, but for being out of memory and failed reads
  abbrev pub OneShownFileFault : Type 0
  OneShownFileFault =
      (files : F) (shown : Shown) (path bytes : List ℕ) (some other : ToolFault)
      → IsFile files path bytes
      → RefusesFile reads g files shown path some
      → RefusesFile reads g files shown path other
      → IsOfNoLine some ⊎ IsOfNoLine other ⊎ (some ≡ other)

  -- files have one text that `combine` owes in a form
  abbrev pub OneCombinedOfFiles : Type 0
  OneCombinedOfFiles =
      (files : F) (form : Form) (paths contents : List (List ℕ)) (text other : List ℕ)
      → AllZip (IsFile files) paths contents
      → CombinesFiles reads g files form paths text
      → CombinesFiles reads g files form paths other
      → text ≡ other

  -- and one fault
  abbrev pub OneCombinedFault : Type 0
  OneCombinedFault =
      (files : F) (form : Form) (paths contents : List (List ℕ)) (some other : ToolFault)
      → AllZip (IsFile files) paths contents
      → RefusesFiles reads g files form paths some
      → RefusesFiles reads g files form paths other
      → IsOfNoLine some ⊎ IsOfNoLine other ⊎ (some ≡ other)
