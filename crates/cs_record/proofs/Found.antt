-- A field or a record stands at the front of bytes, or a fault.
use Rattle.std.proofs.Common.{◌≡◌, ℕ, zero, suc, ◌+◌, ◌-◌, ◌<◌, ◌≤◌, ◌^◌, List, [], ◌∷◌, ◌++◌, length, take, drop, refl, sym, ap, ◌∙◌, append_assoc, arith, inl, inr}
use Rattle.std.specs.Prelude.{◌⊎◌}
use Rattle.std.specs.Str.{is_utf8}
use Rattle.std.proofs.lemmas.Bool.{cases_lt, cases_Bool}
use Rattle.std.proofs.lemmas.List.{length-take-le, take-append-drop, take_all}
use Rattle.std.proofs.lemmas.Str.{IsUtf8-from_is_utf8, is_utf8-from_IsUtf8}
use Rattle.cs_varint.specs.Bytes.{AreBytes, bytes_rest}
use Rattle.cs_varint.specs.Laws.{VarintLaws}
use Rattle.cs_varint.specs.Varint.{spelling, IsTooLong}
use Rattle.cs_value.specs.declared.value.Value.TheVariants.{Null, Text, Blob}
use Rattle.cs_value.specs.declared.value.Field.{Field}
use Rattle.cs_value.specs.declared.value.Field.TheVariants.{Undefined, Is}
use Rattle.cs_record.specs.Spelling.{counted, field, record_of, Fits}
use Rattle.cs_record.specs.Facts.{parts, stands}
use Rattle.cs_record.specs.Laws.{FieldLaws, FieldOrFault, RecordOrFault}
use Rattle.cs_record.specs.Reading.{IsCutOff, HasLength, IsFieldAt, IsFieldFault, IsRecordAt, IsRecordFault}
use Rattle.cs_record.specs.declared.fault.Fault.{Fault}
use Rattle.cs_record.specs.declared.fault.Fault.TheVariants.{Truncated, NotShortest, BadType, Real, NotUtf8}
use Rattle.cs_record.proofs.Packed.{integer_behind}

-- ---- what is counted

-- bytes behind their length begin these
IsCounted : List ℕ → Type 0
IsCounted bytes = (content : List ℕ) × (rest : List ℕ) × (length content < 2 ^ 64) × (bytes ≡ counted content ++ rest)

-- a number, and as many bytes behind it or fewer
counted_or_cut : (count : ℕ) (bytes rest : List ℕ) → count < 2 ^ 64 → bytes ≡ spelling count ++ rest → IsCounted bytes ⊎ IsCutOff bytes
unfolding IsCounted
counted_or_cut count bytes rest fits e =
    elim (cases_lt (length rest) count) [
      | inl less ↦ inr (inr (count, rest, e, fits, less))
      | inr enough ↦
          let long : length (take count rest) ≡ count = length-take-le count rest enough in
          let spelled : bytes ≡ spelling (length (take count rest)) ++ (take count rest ++ drop count rest) =
          e ∙ rw long (ap (λ (t : List ℕ). spelling count ++ t) (sym (take-append-drop count rest))) in
          inl (take count rest, drop count rest, rw long fits, spelled ∙ sym (append_assoc (spelling (length (take count rest))) (take count rest) (drop count rest)))
    ]

-- ---- fields

Ahead : List ℕ → Type 0
Ahead bytes = (value : Field) × (len : ℕ) × IsFieldAt bytes value len

Wrong : List ℕ → Type 0
Wrong bytes = (fault : Fault) × (offset : ℕ) × IsFieldFault fault offset bytes

ahead : (bytes : List ℕ) (value : Field) (rest : List ℕ) → Fits value → bytes ≡ field value ++ rest → Ahead bytes ⊎ Wrong bytes
unfolding Ahead
ahead bytes value rest fits e = inl (value, length (field value), (fits, stands bytes (field value) rest e))

text_or_not : (text rest : List ℕ) → length text < 2 ^ 64 → Ahead (3 ∷ (counted text ++ rest)) ⊎ Wrong (3 ∷ (counted text ++ rest))
unfolding Wrong
text_or_not text rest fits =
    elim (cases_Bool (is_utf8 text)) [
      | inl is ↦ ahead (3 ∷ (counted text ++ rest)) (Is (Text text)) rest (fits, IsUtf8-from_is_utf8 text is) refl
      | inr is ↦ inr (NotUtf8, 1 + length (spelling (length text)), (text, rest, refl, fits, (λ yes. let t = is_utf8-from_IsUtf8 text yes in cc), refl))
    ]

integer_or_cut : (rest : List ℕ) → AreBytes (1 ∷ rest) → Ahead (1 ∷ rest) ⊎ Wrong (1 ∷ rest)
unfolding Ahead Wrong
integer_or_cut rest are =
    elim (cases_lt (length rest) 8) [
      | inl few ↦ inr (Truncated, length (1 ∷ rest), (refl, inl (refl, few)))
      | inr enough ↦
          let long : 8 ≤ length (take (length (1 ∷ rest) - 1) (drop 1 (1 ∷ rest))) = rw (take_all (length (1 ∷ rest) - 1) rest (omega arith)) enough in
          let found = integer_behind (1 ∷ rest) (omega arith) refl long are in
          inl (found.0, 9, found.1)
    ]

early_length : (kind : ℕ) (rest : List ℕ) → HasLength kind → IsCutOff rest → Wrong (kind ∷ rest)
unfolding Wrong
early_length kind rest has cut = (Truncated, length (kind ∷ rest), (refl, inr (has, cut)))

long_length : (kind : ℕ) (rest : List ℕ) → HasLength kind → IsTooLong rest → Wrong (kind ∷ rest)
unfolding Wrong
long_length kind rest has long = (NotShortest, 1, (kind, rest, refl, has, long, refl))

module _ (varints : VarintLaws) where
  counted_or_fault : (bytes : List ℕ) → AreBytes bytes → IsCounted bytes ⊎ IsCutOff bytes ⊎ IsTooLong bytes
  counted_or_fault bytes are =
      elim (varints.found bytes are) [
        | inl (count, rest, fits, e) ↦ elim (counted_or_cut count bytes rest fits e) [
          | inl is ↦ inl is
          | inr cut ↦ inr (inl cut)
        ]
        | inr (inl partial) ↦ inr (inl (inl partial))
        | inr (inr long) ↦ inr (inr long)
      ]

  text_field : (rest : List ℕ) → AreBytes rest → Ahead (3 ∷ rest) ⊎ Wrong (3 ∷ rest)
  unfolding IsCounted
  text_field rest are =
      elim (counted_or_fault rest are) [
        | inl (text, more, fits, e) ↦ rw e (text_or_not text more fits)
        | inr (inl cut) ↦ inr (early_length 3 rest (inl refl) cut)
        | inr (inr long) ↦ inr (long_length 3 rest (inl refl) long)
      ]

  blob_field : (rest : List ℕ) → AreBytes rest → Ahead (4 ∷ rest) ⊎ Wrong (4 ∷ rest)
  unfolding IsCounted
  blob_field rest are =
      elim (counted_or_fault rest are) [
        | inl (content, more, fits, e) ↦ ahead (4 ∷ rest) (Is (Blob content)) more fits (ap (λ (t : List ℕ). 4 ∷ t) e)
        | inr (inl cut) ↦ inr (early_length 4 rest (inr refl) cut)
        | inr (inr long) ↦ inr (long_length 4 rest (inr refl) long)
      ]

  pub field_or_fault : FieldOrFault
  unfolding Ahead Wrong
  field_or_fault [] are = inr (Truncated, 0, (refl, tt))
  field_or_fault (zero ∷ rest) are = ahead (0 ∷ rest) Undefined rest tt refl
  field_or_fault (suc zero ∷ rest) are = integer_or_cut rest are
  field_or_fault (suc (suc zero) ∷ rest) are = inr (Real, 0, (rest, refl, refl))
  field_or_fault (suc (suc (suc zero)) ∷ rest) are = text_field rest (λ i. are (suc i))
  field_or_fault (suc (suc (suc (suc zero))) ∷ rest) are = blob_field rest (λ i. are (suc i))
  field_or_fault (suc (suc (suc (suc (suc zero)))) ∷ rest) are = ahead (5 ∷ rest) (Is Null) rest tt refl
  field_or_fault (suc (suc (suc (suc (suc (suc kind))))) ∷ rest) are =
      inr (BadType (suc (suc (suc (suc (suc (suc kind)))))), 0, (rest, refl, omega arith, refl))

-- ---- records

first_spelled : (bytes more rest : List ℕ) (value : Field) (fields : List Field) → bytes ≡ field value ++ more → more ≡ record_of fields ++ rest → bytes ≡ record_of (value ∷ fields) ++ rest
first_spelled bytes more rest value fields e f =
    e ∙ ap (λ (t : List ℕ). field value ++ t) f ∙ sym (append_assoc (field value) (record_of fields) rest)

-- a field, and a record behind it
record_more : (count : ℕ) (bytes more : List ℕ) (value : Field) → Fits value → bytes ≡ field value ++ more
    → (fields : List Field) × (len : ℕ) × IsRecordAt count more fields len
    → (fields : List Field) × (len : ℕ) × IsRecordAt (suc count) bytes fields len
record_more count bytes more value fits e (fields, len, (wide, all, at)) =
    (value ∷ fields, length (record_of (value ∷ fields)), (ap suc wide, (fits, all), stands bytes (record_of (value ∷ fields)) (drop len more) (first_spelled bytes more (drop len more) value fields e (parts more (record_of fields) len at))))

-- a field, and a fault behind it
fault_more : (count : ℕ) (bytes more : List ℕ) (value : Field) → Fits value → bytes ≡ field value ++ more
    → (fault : Fault) × (offset : ℕ) × IsRecordFault count fault offset more
    → (fault : Fault) × (offset : ℕ) × IsRecordFault (suc count) fault offset bytes
fault_more count bytes more value fits e (fault, offset, told) = (
  fault,
  length (record_of (value ∷ told.before)) + told.inner,
  record {
    before = value ∷ told.before;
    rest = told.rest;
    inner = told.inner;
    whole = (omega (arith, told.whole.0), (fits, told.whole.1));
    parts = first_spelled bytes more told.rest value told.before e told.parts;
    wrong = told.wrong;
    there = refl;
  },
)

module _ (fields : FieldLaws) where
  pub record_or_fault : RecordOrFault
  record_or_fault zero bytes are = inl ([], 0, (refl, tt, stands bytes [] bytes refl))
  record_or_fault (suc count) bytes are =
      elim (fields.found bytes are) [
        | inr (fault, offset, told) ↦ inr (
          fault,
          offset,
          record {
            before = [];
            rest = bytes;
            inner = offset;
            whole = (omega arith, tt);
            parts = refl;
            wrong = told;
            there = omega arith;
          },
        )
        | inl (value, len, (fits, at)) ↦
            let e = parts bytes (field value) len at in
            elim (record_or_fault count (drop len bytes) (bytes_rest bytes (field value) (drop len bytes) e are)) [
              | inl found ↦ inl (record_more count bytes (drop len bytes) value fits e found)
              | inr told ↦ inr (fault_more count bytes (drop len bytes) value fits e told)
            ]
      ]
