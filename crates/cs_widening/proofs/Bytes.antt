-- The bytes of a row, and of an UPDATE's record, with more columns.
use Rattle.std.proofs.Common.{◌≡◌, ℕ, zero, suc, ◌-◌, List, ◌++◌, length, replicate, refl, ap, ◌∙◌}
use Rattle.std.proofs.lemmas.Grind.{flat_map-append}
use Rattle.cs_value.specs.declared.value.Value.{Value}
use Rattle.cs_value.specs.declared.value.Value.TheVariants.{Null}
use Rattle.cs_value.specs.declared.value.Field.TheVariants.{Undefined, Is}
use Rattle.cs_record.specs.Spelling.{field, null_type, record_of, row_bytes, undefined_type}
use Rattle.cs_change.specs.Facts.{conjoin}
use Rattle.cs_widening.specs.Laws.{BytesWiden}

nulls_spelled : (n : ℕ) → row_bytes (replicate n Null) ≡ replicate n null_type
nulls_spelled zero = refl
nulls_spelled (suc n) = conjoin refl (nulls_spelled n)

undefined_spelled : (n : ℕ) → record_of (replicate n Undefined) ≡ replicate n undefined_type
undefined_spelled zero = refl
undefined_spelled (suc n) = conjoin refl (undefined_spelled n)

pub bytes_widen : BytesWiden
bytes_widen width row fields = (
  flat_map-append (λ (v : Value). field (Is v)) row (replicate (width - length row) Null) ∙ ap (λ (bytes : List ℕ). row_bytes row ++ bytes) (nulls_spelled (width - length row)),
  flat_map-append field fields (replicate (width - length fields) Undefined) ∙ ap (λ (bytes : List ℕ). record_of fields ++ bytes) (undefined_spelled (width - length fields)),
)
