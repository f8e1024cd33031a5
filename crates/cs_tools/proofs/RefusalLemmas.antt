-- Why a tool writes nothing, from what was read.
use Rattle.std.proofs.Common.{◌≡◌, ℕ, List, [], ◌∷◌, ◌++◌, inl, inr, refl, ap, ◌∙◌}
use Rattle.std.specs.Prelude.{◌⊎◌, Option, Some, None, Ok, flat_map}
use Rattle.std.specs.Global.{Vec}
use Rattle.cs_blob.specs.Reading.{IsBlobFault}
use Rattle.cs_blob.specs.Spelling.{FitsBlob, blob_spelling}
use Rattle.cs_blob.specs.declared.blob.BlobGroup.{BlobGroup}
use Rattle.cs_change.specs.Spelling.{FitsChangeset, changeset_spelling}
use Rattle.cs_change.specs.declared.group.Group.{Group}
use Rattle.cs_changeset.specs.Reading.{IsChangesetFault}
use Rattle.cs_group.specs.Combined.{HasCombineFault, IsCombined}
use Rattle.cs_group.specs.declared.combining.CombineFault.{CombineFault}
use Rattle.cs_group.specs.declared.combining.CombineFault.TheVariants as combining
use Rattle.cs_lines.specs.Reading.{StaysInLine}
use Rattle.cs_normal.specs.declared.normal.TableChanges.{TableChanges}
use Rattle.cs_column_bytes.specs.KeyPlaces.{heads_of}
use Rattle.cs_tools.specs.CombinedLines.{AreNotCombined, RefusesToCombine}
use Rattle.cs_tools.specs.Faults.{AreBadBytes, of_combine}
use Rattle.cs_tools.specs.LinesRead.{AreReadUpTo, HasBadInput, IsNotTaken, SpellAll, TakesNextBytes}
use Rattle.cs_tools.specs.RebasedLine.{heads_of_both, IsNotRebased, IsRebased, RefusesToRebase, TakesBoth, TakesChangeset}
use Rattle.cs_tools.specs.SpelledLine.{Spells, TakesNext}
use Rattle.cs_tools.specs.WrittenForm.{IsNotWritten}
use Rattle.cs_tools.specs.declared.fault.ToolFault.{ToolFault}
use Rattle.cs_tools.specs.declared.fault.ToolFault.TheVariants.{Memory}
use Rattle.cs_tools.specs.declared.tool.Form.{Form}
use Rattle.cs_tools.proofs.InputLemmas.{all_behind, bad_last, bad_lines, bad_more, spelled_lines}

-- ---- all lines

-- one of the lines that were read spells no changeset
pub refuses_input : (form : Form) (failed : Type 0) (input left : Option (List ℕ)) (inputs : List (Vec ℕ)) (ended : Option ToolFault)
    (told : ToolFault) → AreReadUpTo failed input left inputs ended → (told ≡ Memory) ⊎ HasBadInput told inputs
    → RefusesToCombine form failed input left told
refuses_input form failed input left inputs ended told read (inl memory) = inl (inl memory)
refuses_input form failed input left inputs None told read (inr bad) =
    inr (read.0, read.2, inl (bad_lines read.0 inputs told read.1 bad))
refuses_input form failed input left inputs (Some why) told read (inr bad) =
    let all = all_behind input read.0 read.2.0 in
    inr (read.0 ++ all.0, all.1, inl (bad_more read.0 all.0 told (bad_lines read.0 inputs told read.1 bad)))

-- they spell changesets, and the next line isn't read
pub refuses_line : (form : Form) (failed : Type 0) (input left : Option (List ℕ)) (inputs : List (Vec ℕ)) (changesets : List (List Group))
    (told : ToolFault) → AreReadUpTo failed input left inputs (Some told) → SpellAll inputs changesets → RefusesToCombine form failed input left told
refuses_line form failed input left inputs changesets told (lines, hex, (first, inl (inl memory))) spell = inl (inl memory)
refuses_line form failed input left inputs changesets told (lines, hex, (first, inl (inr read))) spell =
    inl (inr (read.0, (lines, changesets, read.1.0, spelled_lines lines inputs changesets hex spell, read.1.1)))
refuses_line form failed input left inputs changesets told (lines, hex, (first, inr bad)) spell =
    let front = lines ++ bad.0 ∷ [] in
    let all = all_behind input front bad.1 in
    let last = bad_last lines changesets bad.0 told (spelled_lines lines inputs changesets hex spell) (inl (bad.2, bad.3)) in
    inr (front ++ all.0, all.1, inl (bad_more front all.0 told last))

-- why changesets aren't taken together, as a tool tells it
not_combined : (changesets : List (List Group)) (fault : CombineFault) → HasCombineFault fault changesets
    → (of_combine fault ≡ Memory) ⊎ AreNotCombined changesets (of_combine fault)
not_combined changesets combining.Memory is = inl refl
not_combined changesets (combining.Headers fault) is = inr (combining.Headers fault, is, (λ same. cc), refl)
not_combined changesets (combining.Unfit fault) is = inr (combining.Unfit fault, is, (λ same. cc), refl)

-- all lines spell changesets, which can't be taken together
pub refuses_together : (form : Form) (failed : Type 0) (input left : Option (List ℕ)) (inputs : List (Vec ℕ)) (changesets : List (List Group))
    (fault : CombineFault) → AreReadUpTo failed input left inputs None → SpellAll inputs changesets → HasCombineFault fault changesets
    → RefusesToCombine form failed input left (of_combine fault)
refuses_together form failed input left inputs changesets fault read spell is =
    elim (not_combined changesets fault is) [
      | inl memory ↦ inl (inl memory)
      | inr not ↦ inr (read.0, read.2, inr (inl (changesets, spelled_lines read.0 inputs changesets read.1 spell, not)))
    ]

-- what they are together can't be written in the form
pub refuses_form : (form : Form) (failed : Type 0) (input left : Option (List ℕ)) (inputs : List (Vec ℕ)) (changesets : List (List Group))
    (both : List TableChanges) (told : ToolFault) → AreReadUpTo failed input left inputs None → SpellAll inputs changesets
    → IsCombined changesets both → (told ≡ Memory) ⊎ IsNotWritten form (flat_map heads_of changesets) told
    → RefusesToCombine form failed input left told
refuses_form form failed input left inputs changesets both told read spell combined (inl memory) = inl (inl memory)
refuses_form form failed input left inputs changesets both told read spell combined (inr not) =
    inr (read.0, read.2, inr (inr (changesets, both, spelled_lines read.0 inputs changesets read.1 spell, combined, not)))

-- ---- two lines

-- the first isn't read
pub refuses_taking_first : (form : Form) (failed : Type 0) (old new : Option (List ℕ)) (told : ToolFault)
    → IsNotTaken (TakesNext old new) (failed × StaysInLine old new) told → RefusesToRebase form failed old new told
refuses_taking_first form failed old new told (inl (inl memory)) = inl (inl memory)
refuses_taking_first form failed old new told (inl (inr read)) = inl (inr (read.0, (read.1.0, inl read.1.1)))
refuses_taking_first form failed old new told (inr bad) = inr (inl (bad.0, bad.1, inl (bad.2, bad.3)))

takes_changeset : (old new : Option (List ℕ)) (bytes : List ℕ) (groups : List Group) → TakesNextBytes bytes old new
    → Spells FitsChangeset changeset_spelling bytes groups → TakesChangeset old new groups
takes_changeset old new bytes groups took spells = (took.0, took.1, (spells.0, took.2 ∙ ap (λ held. Ok held) spells.1))

-- the bytes of the first spell a changeset with this normal form
abbrev pub HasForm : List ℕ → List TableChanges → Type 0
HasForm bytes local = (groups : List Group) × Spells FitsChangeset changeset_spelling bytes groups × IsCombined (groups ∷ []) local

-- they don't
pub refuses_local : (form : Form) (failed : Type 0) (old new : Option (List ℕ)) (bytes : List ℕ) (told : ToolFault)
    → TakesNextBytes bytes old new
    → (told ≡ Memory) ⊎ AreBadBytes IsChangesetFault bytes told
    ⊎ ((groups : List Group) × Spells FitsChangeset changeset_spelling bytes groups × AreNotCombined (groups ∷ []) told)
    → RefusesToRebase form failed old new told
refuses_local form failed old new bytes told took (inl memory) = inl (inl memory)
refuses_local form failed old new bytes told took (inr (inl bad)) = inr (inl (took.0, took.1, inr (bytes, took.2, bad)))
refuses_local form failed old new bytes told took (inr (inr not)) =
    inr (inr (inl (not.0, takes_changeset old new bytes not.0 took not.1, not.2)))

-- the second isn't read
pub refuses_taking_second : (form : Form) (failed : Type 0) (old between new : Option (List ℕ)) (bytes : List ℕ) (local : List TableChanges)
    (told : ToolFault) → TakesNextBytes bytes old between → HasForm bytes local
    → IsNotTaken (TakesNext between new) (failed × StaysInLine between new) told → RefusesToRebase form failed old new told
refuses_taking_second form failed old between new bytes local told took formed (inl (inl memory)) = inl (inl memory)
refuses_taking_second form failed old between new bytes local told took formed (inl (inr read)) =
    let first = takes_changeset old between bytes formed.0 took formed.1 in
    inl (inr (read.0, (read.1.0, inr (between, formed.0, local, first, formed.2, read.1.1))))
refuses_taking_second form failed old between new bytes local told took formed (inr bad) =
    let first = takes_changeset old between bytes formed.0 took formed.1 in
    inr (inr (inr (inl (between, formed.0, local, first, formed.2, (bad.0, bad.1, inl (bad.2, bad.3))))))

takes_both : (old between new : Option (List ℕ)) (bytes conflicts : List ℕ) (groups : List Group) (blob : List BlobGroup)
    → TakesNextBytes bytes old between → Spells FitsChangeset changeset_spelling bytes groups
    → TakesNextBytes conflicts between new → Spells FitsBlob blob_spelling conflicts blob → TakesBoth old new groups blob
takes_both old between new bytes conflicts groups blob took spells then_took spells_blob = record {
  first = took.0;
  second = then_took.0;
  between = between;
  takes_first = took.1;
  changeset = (spells.0, took.2 ∙ ap (λ held. Ok held) spells.1);
  takes_second = then_took.1;
  conflicts = (spells_blob.0, then_took.2 ∙ ap (λ held. Ok held) spells_blob.1);
}

-- its bytes spell no blob over which the changeset can be rebased
pub refuses_blob : (form : Form) (failed : Type 0) (old between new : Option (List ℕ)) (bytes conflicts : List ℕ) (local : List TableChanges)
    (told : ToolFault) → TakesNextBytes bytes old between → HasForm bytes local → TakesNextBytes conflicts between new
    → (told ≡ Memory) ⊎ AreBadBytes IsBlobFault conflicts told
    ⊎ ((blob : List BlobGroup) × Spells FitsBlob blob_spelling conflicts blob × IsNotRebased blob local told)
    → RefusesToRebase form failed old new told
refuses_blob form failed old between new bytes conflicts local told took formed then_took (inl memory) = inl (inl memory)
refuses_blob form failed old between new bytes conflicts local told took formed then_took (inr (inl bad)) =
    let first = takes_changeset old between bytes formed.0 took formed.1 in
    inr (inr (inr (inl (between, formed.0, local, first, formed.2, (then_took.0, then_took.1, inr (conflicts, then_took.2, bad))))))
refuses_blob form failed old between new bytes conflicts local told took formed then_took (inr (inr not)) =
    let both = takes_both old between new bytes conflicts formed.0 not.0 took formed.1 then_took not.1 in
    inr (inr (inr (inr (formed.0, local, not.0, both, formed.2, inl not.2))))

-- the rebased changeset can't be written in the form
pub refuses_rebased : (form : Form) (failed : Type 0) (old between new : Option (List ℕ)) (bytes conflicts : List ℕ)
    (local made : List TableChanges) (told : ToolFault) → TakesNextBytes bytes old between
    → (formed : HasForm bytes local) → TakesNextBytes conflicts between new
    → (over : (blob : List BlobGroup) × Spells FitsBlob blob_spelling conflicts blob × IsRebased blob local made)
    → (told ≡ Memory) ⊎ IsNotWritten form (heads_of_both formed.0 over.0) told
    → RefusesToRebase form failed old new told
refuses_rebased form failed old between new bytes conflicts local made told took formed then_took over (inl memory) = inl (inl memory)
refuses_rebased form failed old between new bytes conflicts local made told took formed then_took over (inr not) =
    let both = takes_both old between new bytes conflicts formed.0 over.0 took formed.1 then_took over.1 in
    inr (inr (inr (inr (formed.0, local, over.0, both, formed.2, inr (made, over.2, not)))))
