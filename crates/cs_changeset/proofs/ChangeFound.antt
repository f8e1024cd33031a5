-- Bytes in a change's place that don't begin the next group begin with a change, or have a fault.
use Rattle.std.proofs.Common.{◌≡◌, ℕ, zero, suc, ◌+◌, ◌≤◌, Bool, true, false, List, [], ◌∷◌, ◌++◌, length, map, refl, sym, ap, ◌∙◌, append_assoc, arith, inl, inr, subst}
use Rattle.std.specs.Prelude.{◌⊎◌}
use Rattle.std.proofs.lemmas.Bool.{cases_eq}
use Rattle.cs_varint.specs.Bytes.{AreBytes, bytes_rest}
use Rattle.cs_value.specs.declared.value.Value.{Value}
use Rattle.cs_value.specs.declared.value.Field.{Field}
use Rattle.cs_value.specs.declared.value.Field.TheVariants.{Undefined, Is}
use Rattle.cs_record.specs.Spelling.{record_of, row_bytes}
use Rattle.cs_change.specs.declared.change.Change.TheVariants.{Insert, Delete, Update}
use Rattle.cs_change.specs.Spelling.{flag_byte, change_spelling, FitsChange, FitsRow}
use Rattle.cs_changeset.specs.Facts.{flag_small, right_columns}
use Rattle.cs_changeset.specs.Laws.{ColumnsOrFault, ChangeOrFault}
use Rattle.cs_changeset.specs.Reading.{BeginsWith, HasFault, IsUpdateFault, IsRecordsFault, IsOperation, IsChangeFault}
use Rattle.cs_changeset.specs.Records.{AreRight, row_rules, old_rules, new_rules}
use Rattle.cs_changeset.specs.declared.fault.Fault.TheVariants.{Truncated, Patchset, BadOperation, BadFlag}
use Rattle.cs_changeset.proofs.ChangeLaws.{fits_row, row_fields}

-- ---- rows

-- columns that may stand in a row are values
as_row : (marks : List Bool) (columns : List Field) → AreRight (row_rules marks) columns → (row : List Value) × (columns ≡ map (λ v. Is v) row)
as_row [] [] right = ([], refl)
as_row (m ∷ marks) (Is v ∷ columns) right =
    let rest = as_row marks columns right.1 in
    (v ∷ rest.0, ap (λ (t : List Field). Is v ∷ t) rest.1)
as_row (m ∷ marks) (Undefined ∷ columns) right = let e = right.0.1 in cc
as_row [] (c ∷ columns) right = absurd right
as_row (m ∷ marks) [] right = absurd right

abbrev RowAhead : List Bool → List ℕ → Type 0
RowAhead marks bytes = BeginsWith row_bytes (FitsRow (length marks)) bytes

row_ahead : (marks : List Bool) (bytes rest : List ℕ) (columns : List Field) → AreRight (row_rules marks) columns → bytes ≡ record_of columns ++ rest → RowAhead marks bytes
row_ahead marks bytes rest columns right e =
    let row = as_row marks columns right in
    let spelled : record_of columns ≡ row_bytes row.0 = ap record_of row.1 ∙ row_fields row.0 in
    (row.0, rest, fits_row marks row.0 (subst (AreRight (row_rules marks)) row.1 right), e ∙ ap (λ (t : List ℕ). t ++ rest) spelled)

-- ---- the records behind the flag

abbrev UpdateAhead : List Bool → List ℕ → Type 0
UpdateAhead marks bytes = (old : List Field) × (new : List Field) × (rest : List ℕ) × AreRight (old_rules marks) old × AreRight (new_rules marks old) new × (bytes ≡ (record_of old ++ record_of new) ++ rest)

module _ (columns : ColumnsOrFault) where
  row_or_fault : (marks : List Bool) (operation : ℕ) (bytes : List ℕ) → (operation ≡ 18) ⊎ (operation ≡ 9) → AreBytes bytes → RowAhead marks bytes ⊎ HasFault (IsRecordsFault marks operation) bytes
  row_or_fault marks operation bytes is are =
      elim (columns (row_rules marks) bytes are) [
        | inl (found, rest, right, e) ↦ inl (row_ahead marks bytes rest found right e)
        | inr (fault, offset, told) ↦ inr (fault, offset, inl (is, told))
      ]

  new_or_fault : (marks : List Bool) (bytes rest : List ℕ) (old : List Field) → AreRight (old_rules marks) old → bytes ≡ record_of old ++ rest → AreBytes rest → UpdateAhead marks bytes ⊎ HasFault (IsUpdateFault marks) bytes
  new_or_fault marks bytes rest old right e are =
      elim (columns (new_rules marks old) rest are) [
        | inl (new, more, right', f) ↦ inl (old, new, more, right, right', e ∙ ap (λ (t : List ℕ). record_of old ++ t) f ∙ sym (append_assoc (record_of old) (record_of new) more))
        | inr (fault, inner, told) ↦ inr (
          fault,
          length (record_of old) + inner,
          inr (record {
            before = old;
            rest = rest;
            inner = inner;
            whole = right;
            parts = e;
            wrong = told;
            there = refl;
          }),
        )
      ]

  update_or_fault : (marks : List Bool) (bytes : List ℕ) → AreBytes bytes → UpdateAhead marks bytes ⊎ HasFault (IsUpdateFault marks) bytes
  update_or_fault marks bytes are =
      elim (columns (old_rules marks) bytes are) [
        | inl (old, rest, right, e) ↦ new_or_fault marks bytes rest old right e (bytes_rest bytes (record_of old) rest e are)
        | inr (fault, offset, told) ↦ inr (fault, offset, inl told)
      ]

  -- ---- the change

  abbrev ChangeAhead : List Bool → List ℕ → Type 0
  ChangeAhead marks bytes = BeginsWith change_spelling (FitsChange marks) bytes

  records_wrong : (marks : List Bool) (operation flag : ℕ) (bytes : List ℕ) → IsOperation operation → flag ≤ 1 → HasFault (IsRecordsFault marks operation) bytes → HasFault (IsChangeFault marks) (operation ∷ flag ∷ bytes)
  records_wrong marks operation flag bytes known small (fault, inner, told) =
      (fault, 2 + inner, inl (known, inr (small, (inner, told, refl))))

  insert_or_fault : (marks : List Bool) (flag : Bool) (bytes : List ℕ) → AreBytes bytes → ChangeAhead marks (18 ∷ flag_byte flag ∷ bytes) ⊎ HasFault (IsChangeFault marks) (18 ∷ flag_byte flag ∷ bytes)
  insert_or_fault marks flag bytes are =
      elim (row_or_fault marks 18 bytes (inl refl) are) [
        | inl (row, rest, fits, e) ↦ inl (Insert flag row, rest, fits, ap (λ (t : List ℕ). 18 ∷ flag_byte flag ∷ t) e)
        | inr told ↦ inr (records_wrong marks 18 (flag_byte flag) bytes (inl refl) (flag_small flag) told)
      ]

  delete_or_fault : (marks : List Bool) (flag : Bool) (bytes : List ℕ) → AreBytes bytes → ChangeAhead marks (9 ∷ flag_byte flag ∷ bytes) ⊎ HasFault (IsChangeFault marks) (9 ∷ flag_byte flag ∷ bytes)
  delete_or_fault marks flag bytes are =
      elim (row_or_fault marks 9 bytes (inr refl) are) [
        | inl (row, rest, fits, e) ↦ inl (Delete flag row, rest, fits, ap (λ (t : List ℕ). 9 ∷ flag_byte flag ∷ t) e)
        | inr told ↦ inr (records_wrong marks 9 (flag_byte flag) bytes (inr (inl refl)) (flag_small flag) told)
      ]

  change_of_update : (marks : List Bool) (flag : Bool) (bytes : List ℕ) → AreBytes bytes → ChangeAhead marks (23 ∷ flag_byte flag ∷ bytes) ⊎ HasFault (IsChangeFault marks) (23 ∷ flag_byte flag ∷ bytes)
  change_of_update marks flag bytes are =
      elim (update_or_fault marks bytes are) [
        | inl (old, new, rest, right, right', e) ↦
            let fits : FitsChange marks (Update flag old new) = right_columns marks old new right right' in
            inl (Update flag old new, rest, fits, ap (λ (t : List ℕ). 23 ∷ flag_byte flag ∷ t) e)
        | inr (fault, offset, told) ↦ inr (records_wrong marks 23 (flag_byte flag) bytes (inr (inr refl)) (flag_small flag) (fault, offset, inr (refl, told)))
      ]

  known_or_fault : (marks : List Bool) (operation : ℕ) (flag : Bool) (bytes : List ℕ) → IsOperation operation → AreBytes bytes → ChangeAhead marks (operation ∷ flag_byte flag ∷ bytes) ⊎ HasFault (IsChangeFault marks) (operation ∷ flag_byte flag ∷ bytes)
  known_or_fault marks operation flag bytes (inl is) are = rw is (insert_or_fault marks flag bytes are)
  known_or_fault marks operation flag bytes (inr (inl is)) are = rw is (delete_or_fault marks flag bytes are)
  known_or_fault marks operation flag bytes (inr (inr is)) are = rw is (change_of_update marks flag bytes are)

  flag_or_fault : (marks : List Bool) (operation : ℕ) (behind : List ℕ) → IsOperation operation → AreBytes behind → ChangeAhead marks (operation ∷ behind) ⊎ HasFault (IsChangeFault marks) (operation ∷ behind)
  flag_or_fault marks operation [] known are = inr (Truncated, 1, inl (known, (refl, refl)))
  flag_or_fault marks operation (zero ∷ rest) known are = known_or_fault marks operation false rest known (λ i. are (suc i))
  flag_or_fault marks operation (suc zero ∷ rest) known are = known_or_fault marks operation true rest known (λ i. are (suc i))
  flag_or_fault marks operation (suc (suc flag) ∷ rest) known are = inr (BadFlag, 1, inl (known, inl (omega arith, refl, refl)))

  pub change_or_fault : ChangeOrFault
  change_or_fault marks first rest other are =
      let behind : AreBytes rest = λ i. are (suc i) in
      elim (cases_eq first 18) [
        | inl is ↦ flag_or_fault marks first rest (inl is) behind
        | inr no_insert ↦ elim (cases_eq first 9) [
          | inl is ↦ flag_or_fault marks first rest (inr (inl is)) behind
          | inr no_delete ↦ elim (cases_eq first 23) [
            | inl is ↦ flag_or_fault marks first rest (inr (inr is)) behind
            | inr no_update ↦ elim (cases_eq first 80) [
              | inl is ↦ inr (Patchset, 0, inr (inl (is, refl, refl)))
              | inr no_patchset ↦ inr (BadOperation, 0, inr (inr (elim [ inl is ↦ no_insert is | inr (inl is) ↦ no_delete is | inr (inr is) ↦ no_update is ], no_patchset, other, refl, refl)))
            ]
          ]
        ]
      ]
