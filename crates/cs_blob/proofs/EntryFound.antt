-- Bytes in an entry's place that don't begin the next group begin with an entry, or have a fault.
use Rattle.std.proofs.Common.{ℕ, zero, suc, ◌+◌, Bool, true, false, List, [], ◌∷◌, refl, ap, arith, inl, inr}
use Rattle.std.specs.Prelude.{◌⊎◌}
use Rattle.std.proofs.lemmas.Bool.{cases_eq}
use Rattle.cs_varint.specs.Bytes.{AreBytes}
use Rattle.cs_change.specs.Spelling.{flag_byte}
use Rattle.cs_changeset.specs.Facts.{flag_small}
use Rattle.cs_changeset.specs.Laws.{ColumnsOrFault}
use Rattle.cs_changeset.specs.Reading.{BeginsWith, HasFault}
use Rattle.cs_changeset.specs.declared.fault.Fault.TheVariants.{Truncated, Patchset, BadOperation, BadFlag}
use Rattle.cs_blob.specs.declared.blob.Entry.{Entry}
use Rattle.cs_blob.specs.Laws.{BlobEntryOrFault}
use Rattle.cs_blob.specs.Reading.{IsBlobEntryFault}
use Rattle.cs_blob.specs.Spelling.{first_byte, entry_rules, blob_entry_spelling, FitsBlobEntry}

abbrev EntryAhead : List Bool → List ℕ → Type 0
EntryAhead marks bytes = BeginsWith blob_entry_spelling (FitsBlobEntry marks) bytes

module _ (columns : ColumnsOrFault) where
  fields_or_fault : (marks : List Bool) (deleted replaced : Bool) (bytes : List ℕ) → AreBytes bytes
      → EntryAhead marks (first_byte deleted ∷ flag_byte replaced ∷ bytes) ⊎ HasFault (IsBlobEntryFault marks) (first_byte deleted ∷ flag_byte replaced ∷ bytes)
  fields_or_fault marks deleted replaced bytes are =
      elim (columns (entry_rules deleted marks) bytes are) [
        | inl (fields, rest, right, e) ↦
            let entry : Entry = record { deleted = deleted; replaced = replaced; fields = fields } in
            inl (entry, rest, right, ap (λ (t : List ℕ). first_byte deleted ∷ flag_byte replaced ∷ t) e)
        | inr (fault, inner, told) ↦ inr (fault, 2 + inner, inl (deleted, refl, inr (flag_small replaced, (inner, told, refl))))
      ]

  answer_or_fault : (marks : List Bool) (deleted : Bool) (behind : List ℕ) → AreBytes behind
      → EntryAhead marks (first_byte deleted ∷ behind) ⊎ HasFault (IsBlobEntryFault marks) (first_byte deleted ∷ behind)
  answer_or_fault marks deleted [] are = inr (Truncated, 1, inl (deleted, refl, (refl, refl)))
  answer_or_fault marks deleted (zero ∷ rest) are = fields_or_fault marks deleted false rest (λ i. are (suc i))
  answer_or_fault marks deleted (suc zero ∷ rest) are = fields_or_fault marks deleted true rest (λ i. are (suc i))
  answer_or_fault marks deleted (suc (suc flag) ∷ rest) are =
      inr (BadFlag, 1, inl (deleted, refl, inl (omega arith, refl, refl)))

  pub entry_or_fault : BlobEntryOrFault
  entry_or_fault marks first rest other are =
      let behind : AreBytes rest = λ i. are (suc i) in
      elim (cases_eq first 18) [
        | inl is ↦ rw is (answer_or_fault marks false rest behind)
        | inr changed ↦ elim (cases_eq first 9) [
          | inl is ↦ rw is (answer_or_fault marks true rest behind)
          | inr deleted ↦ elim (cases_eq first 80) [
            | inl is ↦ inr (Patchset, 0, inr (inl (is, refl, refl)))
            | inr patchset ↦ inr (BadOperation, 0, inr (inr (changed, deleted, patchset, other, refl, refl)))
          ]
        ]
      ]
