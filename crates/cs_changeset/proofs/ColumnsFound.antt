-- Columns that may stand there begin bytes, or there is a fault.
use Rattle.std.proofs.Common.{◌≡◌, ℕ, ◌+◌, List, [], ◌∷◌, ◌++◌, length, drop, Option, Some, None, refl, sym, ap, ◌∙◌, append_assoc, inl, inr}
use Rattle.std.specs.Prelude.{◌⊎◌}
use Rattle.cs_varint.specs.Bytes.{bytes_rest}
use Rattle.cs_value.specs.declared.value.Field.{Field}
use Rattle.cs_record.specs.Facts.{parts}
use Rattle.cs_record.specs.Laws.{FieldLaws}
use Rattle.cs_record.specs.Spelling.{field, record_of, Fits}
use Rattle.cs_changeset.specs.Laws.{ColumnsOrFault}
use Rattle.cs_changeset.specs.Reading.{BeginsWith, HasFault}
use Rattle.cs_changeset.specs.Records.{Rule, of_field, field_fault, IsRight, AreRight, IsColumnFault, IsColumnsFault}
use Rattle.cs_changeset.specs.declared.fault.Fault.{Fault}

-- the field at the front may stand there, or not
right_or_not : (rule : Rule) (bytes rest : List ℕ) (value : Field) (wrong : Option Fault) → Fits value → bytes ≡ field value ++ rest → field_fault rule value ≡ wrong → IsRight rule value ⊎ HasFault (IsColumnFault rule) bytes
right_or_not rule bytes rest value None fits e is = inl (fits, is)
right_or_not rule bytes rest value (Some fault) fits e is = inr (fault, 0, inr (value, rest, e, fits, is, refl))

-- a column that is right before what stands or is wrong behind it
column_before : (rule : Rule) (rules : List Rule) (bytes rest : List ℕ) (value : Field) → IsRight rule value → bytes ≡ field value ++ rest
    → BeginsWith record_of (AreRight rules) rest ⊎ HasFault (IsColumnsFault rules) rest
    → BeginsWith record_of (AreRight (rule ∷ rules)) bytes ⊎ HasFault (IsColumnsFault (rule ∷ rules)) bytes
column_before rule rules bytes rest value right e (inl (columns, more, are, f)) =
    inl (value ∷ columns, more, (right, are), e ∙ ap (λ (t : List ℕ). field value ++ t) f ∙ sym (append_assoc (field value) (record_of columns) more))
column_before rule rules bytes rest value right e (inr (fault, inner, told)) = inr (
  fault,
  length (field value) + inner,
  inr (record {
    before = value;
    rest = rest;
    inner = inner;
    whole = right;
    parts = e;
    wrong = told;
    there = refl;
  }),
)

module _ (fields : FieldLaws) where
  pub columns_or_fault : ColumnsOrFault
  columns_or_fault [] bytes are = inl ([], bytes, tt, refl)
  columns_or_fault (rule ∷ rules) bytes are =
      elim (fields.found bytes are) [
        | inr (inner, offset, told) ↦ inr (of_field inner, offset, inl (inl (inner, refl, told)))
        | inl (value, len, (fits, at)) ↦
            let e = parts bytes (field value) len at in
            elim (right_or_not rule bytes (drop len bytes) value (field_fault rule value) fits e refl) [
              | inr (fault, offset, told) ↦ inr (fault, offset, inl told)
              | inl right ↦ column_before rule rules bytes (drop len bytes) value right e (columns_or_fault rules (drop len bytes) (bytes_rest bytes (field value) (drop len bytes) e are))
            ]
      ]
