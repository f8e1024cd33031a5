-- An input owes a text, or has a fault.
use Rattle.std.proofs.Common.{◌≡◌, ℕ, List, [], ◌∷◌, inl, inr, refl, ap, ◌∙◌}
use Rattle.std.specs.Prelude.{◌≢◌, ◌⊎◌, Option, Some, Result, Ok, Err, flat_map}
use Rattle.std.specs.List.{AllByRecursion}
use Rattle.hex.specs.Hex.{decode_of, IsBytes}
use Rattle.hex.specs.declared.error.FromHexError.{FromHexError}
use Rattle.hex.proofs.HexLemmas.{decode_of-ok}
use Rattle.cs_blob.specs.Laws.{BlobOrFault}
use Rattle.cs_blob.specs.Reading.{IsBlobFault}
use Rattle.cs_blob.specs.Spelling.{FitsBlob, blob_spelling}
use Rattle.cs_blob.specs.declared.blob.BlobGroup.{BlobGroup}
use Rattle.cs_change.specs.Spelling.{FitsChangeset, changeset_spelling}
use Rattle.cs_change.specs.declared.group.Group.{Group}
use Rattle.cs_changeset.specs.Laws.{ChangesetOrFault}
use Rattle.cs_changeset.specs.Reading.{HasFault, IsChangesetFault}
use Rattle.cs_changeset.specs.declared.fault.CodecFault.TheVariants.{At}
use Rattle.cs_changeset.specs.declared.fault.Fault.{Fault}
use Rattle.cs_column_bytes.specs.KeyPlaces.{Head, heads_of, sqlite_spelling}
use Rattle.cs_column_bytes.specs.Laws.{SomeOrder}
use Rattle.cs_group.specs.Combined.{CombinedOrFault, IsCombined}
use Rattle.cs_lines.specs.Laws.{LineOrEnd}
use Rattle.cs_lines.specs.Lines.{hex_line, lines_of}
use Rattle.cs_normal.specs.Normal.{normal_spelling}
use Rattle.cs_normal.specs.declared.normal.TableChanges.{TableChanges}
use Rattle.cs_rebaser.specs.Rebased.{rebased}
use Rattle.cs_rebaser.specs.RebasedLaws.{EachOnceOrNot, ShapesOrWrong}
use Rattle.cs_rebaser.specs.declared.faults.ConfigureFault.TheVariants.{KeyTwice}
use Rattle.cs_rebaser.specs.declared.faults.RebaseFault.TheVariants.{WrongShape}
use Rattle.cs_text.specs.Text.{blob_text, changeset_text}
use Rattle.cs_tools.specs.CombinedLines.{AreNotCombined, HasBadLine, HasFaultToCombine, SpellChangesets, SpellsCombined}
use Rattle.cs_tools.specs.Endings.{Owes, Refuses}
use Rattle.cs_tools.specs.Faults.{IsBadLine, IsNoHex, IsOfNoLine}
use Rattle.cs_tools.specs.Laws.{TextOrFault}
use Rattle.cs_tools.specs.RebasedLine.{heads_of_both, IsNotRebased, IsRebased, TakesBoth}
use Rattle.cs_tools.specs.ShownLine.{RefusesToShow, ShowsFirst}
use Rattle.cs_tools.specs.SpelledLine.{IsHexOf, SpellsBlob, SpellsChangeset, SpellsInHex, TakesNext}
use Rattle.cs_tools.specs.WrittenForm.{IsNotWritten, SpellsIn}
use Rattle.cs_tools.specs.declared.fault.ToolFault.{ToolFault}
use Rattle.cs_tools.specs.declared.fault.ToolFault.TheVariants as told
use Rattle.cs_tools.specs.declared.tool.Form.{Form}
use Rattle.cs_tools.specs.declared.tool.Form.TheVariants.{Normal, Sqlite}
use Rattle.cs_tools.specs.declared.tool.Tool.{Tool}
use Rattle.cs_tools.specs.declared.tool.Tool.TheVariants.{Combine, Rebase, ShowBlob, ShowChangeset}

-- the laws below
pub record Below : Type 0 where
  pub lines : LineOrEnd
  pub changesets : ChangesetOrFault
  pub blobs : BlobOrFault
  pub combined : CombinedOrFault
  pub once : EachOnceOrNot
  pub shapes : ShapesOrWrong
  pub orders : SomeOrder

-- a fault that lines are the reason of
abbrev IsTold : (ToolFault → Type 0) → Type 0
IsTold HasIt = (why : ToolFault) × (IsOfNoLine why → ⊥) × HasIt why

of_lines : (why : ToolFault) → why ≢ told.Memory → why ≢ told.Read → IsOfNoLine why → ⊥
of_lines why memory read (inl is) = memory is
of_lines why memory read (inr is) = read is

-- ---- one line

-- bytes spell something, or have a fault
abbrev SpellOrFault : {A : Type 0} → (A → Type 0) → (A → List ℕ) → (Fault → ℕ → List ℕ → Type 0) → Type 0
SpellOrFault {A} Fits spelling IsFault =
    (bytes : List ℕ) → IsBytes bytes → ((thing : A) × Fits thing × (bytes ≡ spelling thing)) ⊎ HasFault IsFault bytes

hex_by : (line : List ℕ) (read : Result (List ℕ) FromHexError) → decode_of line ≡ read → ((bytes : List ℕ) × IsHexOf line bytes) ⊎ IsNoHex line
hex_by line (Ok bytes) is = inl (bytes, is)
hex_by line (Err why) is = inr (why, is)

bytes_or_fault : {A : Type 0} (Fits : A → Type 0) (spelling : A → List ℕ) (IsFault : Fault → ℕ → List ℕ → Type 0)
    → SpellOrFault Fits spelling IsFault → (line bytes : List ℕ) → IsHexOf line bytes
    → ((thing : A) × SpellsInHex Fits spelling line thing) ⊎ IsTold (IsBadLine IsFault line)
bytes_or_fault Fits spelling IsFault found line bytes hex =
    elim (found bytes (decode_of-ok line bytes hex).3) [
      | inl (thing, fits, is) ↦ inl (thing, (fits, hex ∙ ap Ok is))
      | inr (fault, offset, is) ↦ inr (
        told.Codec (At fault offset),
        of_lines (told.Codec (At fault offset)) (λ e. cc) (λ e. cc),
        inr (bytes, hex, (fault, offset, is, refl)),
      )
    ]

line_or_fault : {A : Type 0} (Fits : A → Type 0) (spelling : A → List ℕ) (IsFault : Fault → ℕ → List ℕ → Type 0)
    → SpellOrFault Fits spelling IsFault → (line : List ℕ)
    → ((thing : A) × SpellsInHex Fits spelling line thing) ⊎ IsTold (IsBadLine IsFault line)
line_or_fault Fits spelling IsFault found line =
    elim (hex_by line (decode_of line) refl) [
      | inl (bytes, hex) ↦ bytes_or_fault Fits spelling IsFault found line bytes hex
      | inr none ↦ inr (told.BadHex, of_lines told.BadHex (λ e. cc) (λ e. cc), inl (none, refl))
    ]

-- there is a next line, where none counts as the empty one
next_of : LineOrEnd → (input : List ℕ) → (line : List ℕ) × (rest : List ℕ) × TakesNext (Some input) (Some rest) line
next_of lines input =
    elim (lines input) [
      | inl (line, rest, takes) ↦ (line, rest, inl takes)
      | inr end ↦ ([], input, inr (end, refl, refl))
    ]

shown_or_fault : {A : Type 0} (Fits : A → Type 0) (spelling text_of : A → List ℕ) (IsFault : Fault → ℕ → List ℕ → Type 0)
    → SpellOrFault Fits spelling IsFault → LineOrEnd → (input : List ℕ)
    → (left : Option (List ℕ)) × (((text : List ℕ) × ShowsFirst Fits spelling text_of (Some input) left text)
    ⊎ IsTold (RefusesToShow IsFault ⊥ (Some input) left))
shown_or_fault Fits spelling text_of IsFault found lines input =
    let next = next_of lines input in (
      Some next.1,
      elim (line_or_fault Fits spelling IsFault found next.0) [
        | inl (thing, spells) ↦ inl (text_of thing, (next.0, thing, next.2, spells, refl))
        | inr (why, of, bad) ↦ inr (why, of, inr (next.0, next.2, bad))
      ],
    )

-- ---- what lines spell together

combined_or_fault : Below → (changesets : List (List Group)) → AllByRecursion FitsChangeset changesets
    → ((both : List TableChanges) × IsCombined changesets both) ⊎ IsTold (AreNotCombined changesets)
combined_or_fault laws changesets fits =
    elim (laws.combined changesets fits) [
      | inl made ↦ inl made
      | inr (fault, other, has) ↦
          inr (told.Combine fault, of_lines (told.Combine fault) (λ e. cc) (λ e. cc), (fault, has, other, refl))
    ]

written_or_fault : Below → (form : Form) (heads : List Head) (tables : List TableChanges)
    → ((bytes : List ℕ) × SpellsIn form heads tables bytes) ⊎ IsTold (IsNotWritten form heads)
written_or_fault laws Normal heads tables = inl (normal_spelling tables, refl)
written_or_fault laws Sqlite heads tables =
    elim (laws.orders heads) [
      | inl one ↦ inl (sqlite_spelling heads tables, (one, refl))
      | inr two ↦ inr (told.KeyOrder, of_lines told.KeyOrder (λ e. cc) (λ e. cc), (refl, two, refl))
    ]

-- ---- all lines

lines_or_fault : Below → (lines : List (List ℕ))
    → ((changesets : List (List Group)) × SpellChangesets lines changesets) ⊎ IsTold (λ why. HasBadLine why lines)
lines_or_fault laws [] = inl ([], tt)
lines_or_fault laws (line ∷ lines) =
    elim (line_or_fault FitsChangeset changeset_spelling IsChangesetFault laws.changesets line) [
      | inr (why, of, bad) ↦ inr (why, of, inl bad)
      | inl (groups, spells) ↦ elim (lines_or_fault laws lines) [
        | inl (changesets, spell) ↦ inl (groups ∷ changesets, (spells, spell))
        | inr (why, of, bad) ↦ inr (why, of, inr (groups, spells, bad))
      ]
    ]

each_fits : (lines : List (List ℕ)) (changesets : List (List Group)) → SpellChangesets lines changesets → AllByRecursion FitsChangeset changesets
each_fits [] [] spell = tt
each_fits [] (groups ∷ changesets) spell = absurd spell
each_fits (line ∷ lines) [] spell = absurd spell
each_fits (line ∷ lines) (groups ∷ changesets) spell = (spell.0.0, each_fits lines changesets spell.1)

joined_or_fault : Below → (form : Form) (lines : List (List ℕ)) (changesets : List (List Group)) (both : List TableChanges)
    → SpellChangesets lines changesets → IsCombined changesets both
    → ((bytes : List ℕ) × SpellsCombined form lines bytes) ⊎ IsTold (HasFaultToCombine form lines)
joined_or_fault laws form lines changesets both spell combined =
    elim (written_or_fault laws form (flat_map heads_of changesets) both) [
      | inr (why, of, not) ↦ inr (why, of, inr (inr (changesets, both, spell, combined, not)))
      | inl (bytes, spelled) ↦ inl (
        bytes,
        record { changesets = changesets; both = both; read = spell; combined = combined; spelled = spelled },
      )
    ]

all_or_fault : Below → (form : Form) (lines : List (List ℕ))
    → ((bytes : List ℕ) × SpellsCombined form lines bytes) ⊎ IsTold (HasFaultToCombine form lines)
all_or_fault laws form lines =
    elim (lines_or_fault laws lines) [
      | inr (why, of, bad) ↦ inr (why, of, inl bad)
      | inl (changesets, spell) ↦ elim (combined_or_fault laws changesets (each_fits lines changesets spell)) [
        | inr (why, of, not) ↦ inr (why, of, inr (inl (changesets, spell, not)))
        | inl (both, combined) ↦ joined_or_fault laws form lines changesets both spell combined
      ]
    ]

-- ---- two lines

rebased_or_fault : Below → (local : List TableChanges) (blob : List BlobGroup)
    → IsRebased blob local (rebased blob local) ⊎ IsTold (IsNotRebased blob local)
rebased_or_fault laws local blob =
    elim (laws.once blob) [
      | inr twice ↦ inr (
        told.Configure KeyTwice,
        of_lines (told.Configure KeyTwice) (λ e. cc) (λ e. cc),
        inl (twice, refl),
      )
      | inl once ↦ elim (laws.shapes blob local) [
        | inl have ↦ inl (once, have, refl)
        | inr wrong ↦ inr (
          told.Rebase WrongShape,
          of_lines (told.Rebase WrongShape) (λ e. cc) (λ e. cc),
          inr (once, wrong, refl),
        )
      ]
    ]

-- what a tool owes where this is left, or why it owes none
abbrev OwesOrRefuses : Tool → List ℕ → Option (List ℕ) → Type 0
OwesOrRefuses tool input left =
    ((text : List ℕ) × Owes tool (Some input) left text) ⊎ IsTold (Refuses tool ⊥ (Some input) left)

written_behind : Below → (form : Form) (input : List ℕ) (left : Option (List ℕ)) (groups : List Group) (local : List TableChanges)
    (blob : List BlobGroup) → TakesBoth (Some input) left groups blob → IsCombined (groups ∷ []) local
    → IsRebased blob local (rebased blob local) → OwesOrRefuses (Rebase form) input left
written_behind laws form input left groups local blob lines normal is =
    let made = rebased blob local in
    elim (written_or_fault laws form (heads_of_both groups blob) made) [
      | inr (why, of, not) ↦ inr (why, of, inr (inr (inr (inr (groups, local, blob, lines, normal, inr (made, is, not))))))
      | inl (bytes, spelled) ↦ inl (
        hex_line bytes,
        (
          bytes,
          record { groups = groups; local = local; blob = blob; made = made; lines = lines; normal = normal; rebased = is; spelled = spelled },
          refl,
        ),
      )
    ]

both_lines : Below → (form : Form) (input : List ℕ) (left : Option (List ℕ)) (groups : List Group) (local : List TableChanges)
    (blob : List BlobGroup) → TakesBoth (Some input) left groups blob → IsCombined (groups ∷ []) local
    → OwesOrRefuses (Rebase form) input left
both_lines laws form input left groups local blob lines normal =
    elim (rebased_or_fault laws local blob) [
      | inr (why, of, not) ↦ inr (why, of, inr (inr (inr (inr (groups, local, blob, lines, normal, inl not)))))
      | inl is ↦ written_behind laws form input left groups local blob lines normal is
    ]

taken_both : (input first between second : List ℕ) (left : Option (List ℕ)) (groups : List Group) (blob : List BlobGroup)
    → TakesNext (Some input) (Some between) first → SpellsChangeset first groups → TakesNext (Some between) left second
    → SpellsBlob second blob → TakesBoth (Some input) left groups blob
taken_both input first between second left groups blob takes spells behind conflicts = record {
  first = first;
  second = second;
  between = Some between;
  takes_first = takes;
  changeset = spells;
  takes_second = behind;
  conflicts = conflicts;
}

second_line : Below → (form : Form) (input first between : List ℕ) (groups : List Group) (local : List TableChanges)
    → TakesNext (Some input) (Some between) first → SpellsChangeset first groups → IsCombined (groups ∷ []) local
    → (left : Option (List ℕ)) × OwesOrRefuses (Rebase form) input left
second_line laws form input first between groups local takes spells normal =
    let next = next_of laws.lines between in (
      Some next.1,
      elim (line_or_fault FitsBlob blob_spelling IsBlobFault laws.blobs next.0) [
        | inr (why, of, bad) ↦
            inr (why, of, inr (inr (inr (inl (Some between, groups, local, (first, takes, spells), normal, (next.0, next.2, bad))))))
        | inl (blob, conflicts) ↦
            both_lines laws form input (Some next.1) groups local blob
            (taken_both input first between next.0 (Some next.1) groups blob takes spells next.2 conflicts) normal
      ],
    )

first_line : Below → (form : Form) (input first between : List ℕ) (groups : List Group)
    → TakesNext (Some input) (Some between) first → SpellsChangeset first groups
    → (left : Option (List ℕ)) × OwesOrRefuses (Rebase form) input left
first_line laws form input first between groups takes spells =
    elim (combined_or_fault laws (groups ∷ []) (spells.0, tt)) [
      | inr (why, of, not) ↦ (Some between, inr (why, of, inr (inr (inl (groups, (first, takes, spells), not)))))
      | inl (local, normal) ↦ second_line laws form input first between groups local takes spells normal
    ]

-- ---- each tool

combining : Below → (form : Form) (input : List ℕ) → OwesOrRefuses (Combine form) input (Some [])
combining laws form input =
    elim (all_or_fault laws form (lines_of input)) [
      | inl (bytes, spells) ↦ inl (hex_line bytes, (lines_of input, bytes, refl, spells, refl))
      | inr (why, of, has) ↦ inr (why, of, inr (lines_of input, refl, has))
    ]

rebasing : Below → (form : Form) (input : List ℕ) → (left : Option (List ℕ)) × OwesOrRefuses (Rebase form) input left
rebasing laws form input =
    let next = next_of laws.lines input in
    elim (line_or_fault FitsChangeset changeset_spelling IsChangesetFault laws.changesets next.0) [
      | inr (why, of, bad) ↦ (Some next.1, inr (why, of, inr (inl (next.0, next.2, bad))))
      | inl (groups, spells) ↦ first_line laws form input next.0 next.1 groups next.2 spells
    ]

pub text_or_fault : Below → TextOrFault
text_or_fault laws (Combine form) input = (Some [], combining laws form input)
text_or_fault laws (Rebase form) input = rebasing laws form input
text_or_fault laws ShowChangeset input =
    shown_or_fault FitsChangeset changeset_spelling changeset_text IsChangesetFault laws.changesets laws.lines input
text_or_fault laws ShowBlob input = shown_or_fault FitsBlob blob_spelling blob_text IsBlobFault laws.blobs laws.lines input
