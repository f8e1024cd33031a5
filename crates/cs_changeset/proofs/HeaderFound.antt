-- Behind the byte that begins a group stands the rest of a header, or there is a fault.
use Rattle.std.proofs.Common.{◌≡◌, ℕ, zero, suc, ◌+◌, ◌<◌, ◌≤◌, ◌^◌, true, false, List, [], ◌∷◌, ◌++◌, length, take, drop, refl, sym, ap, ◌∙◌, append_assoc, arith, inl, inr}
use Rattle.std.specs.Prelude.{◌≢◌, ◌⊎◌, IsUtf8}
use Rattle.std.specs.List.{list_any}
use Rattle.std.specs.Str.{is_utf8}
use Rattle.std.proofs.lemmas.Bool.{cases_lt, cases_eq, cases_Bool}
use Rattle.std.proofs.lemmas.List.{length-take-le, take-append-drop}
use Rattle.std.proofs.lemmas.Str.{IsUtf8-from_is_utf8, is_utf8-from_IsUtf8}
use Rattle.cs_varint.specs.Bytes.{AreBytes}
use Rattle.cs_varint.specs.Laws.{VarintLaws}
use Rattle.cs_varint.specs.Varint.{spelling}
use Rattle.cs_change.specs.Spelling.{is_nonzero, header_spelling, FitsHeader}
use Rattle.cs_changeset.specs.Laws.{HeaderOrFault}
use Rattle.cs_changeset.specs.Reading.{BeginsWith, HasFault, FitsCount, FitsMarks, HasNoZero, EndsEarly, LongCount, BadCount, NoKeyMark, BadName, IsHeaderFault}
use Rattle.cs_changeset.specs.declared.fault.Fault.TheVariants.{Truncated, NotShortest, Columns, NoKeyColumn, NotUtf8}

abbrev HeaderAhead : List ℕ → Type 0
HeaderAhead bytes =
    BeginsWith (λ (header : List ℕ × List ℕ). header_spelling header.0 header.1) (λ header. FitsHeader header.0 header.1) bytes

abbrev HeaderWrong : List ℕ → Type 0
HeaderWrong bytes = HasFault IsHeaderFault bytes

-- ---- the name

-- a zero byte ends what stands before it, or there is none
Ended : List ℕ → Type 0
Ended bytes = (name : List ℕ) × (rest : List ℕ) × HasNoZero name × (bytes ≡ name ++ 0 ∷ rest)

byte_first : (byte : ℕ) (bytes : List ℕ) → byte ≢ 0 → Ended bytes ⊎ HasNoZero bytes → Ended (byte ∷ bytes) ⊎ HasNoZero (byte ∷ bytes)
unfolding Ended
byte_first byte bytes some (inl (name, rest, none, e)) = inl (byte ∷ name, rest, (some, none), ap (λ (t : List ℕ). byte ∷ t) e)
byte_first byte bytes some (inr none) = inr (some, none)

ended_or_not : (bytes : List ℕ) → Ended bytes ⊎ HasNoZero bytes
unfolding Ended
ended_or_not [] = inr tt
ended_or_not (zero ∷ bytes) = inl ([], bytes, tt, refl)
ended_or_not (suc byte ∷ bytes) = byte_first (suc byte) bytes (λ e. omega (arith, e)) (ended_or_not bytes)

whole_is : (behind marks name rest more : List ℕ) → behind ≡ spelling (length marks) ++ marks ++ rest → rest ≡ name ++ 0 ∷ more → 84 ∷ behind ≡ header_spelling marks name ++ more
whole_is behind marks name rest more e f =
    ap (λ (t : List ℕ). 84 ∷ t) (e ∙ ap (λ (t : List ℕ). spelling (length marks) ++ marks ++ t) f ∙ simp append_assoc refl)

text_or_not : (behind marks name more : List ℕ) → FitsMarks marks → HasNoZero name → 84 ∷ behind ≡ header_spelling marks name ++ more → HeaderAhead (84 ∷ behind) ⊎ HeaderWrong (84 ∷ behind)
text_or_not behind marks name more fits none e =
    elim (cases_Bool (is_utf8 name)) [
      | inl is ↦
          let header : FitsHeader marks name = record { some = fits.0.0; limit = fits.0.1; key = fits.1; text = IsUtf8-from_is_utf8 name is; ended = none } in
          inl ((marks, name), more, header, e)
      | inr is ↦
          let no_text : IsUtf8 name → ⊥ = λ yes. let t = is_utf8-from_IsUtf8 name yes in cc in
          inr (NotUtf8, 1 + length (spelling (length marks)) + length marks, (BadName, refl, (marks, name, more, e, fits, none, no_text, refl)))
    ]

name_or_fault : (behind marks rest : List ℕ) → FitsMarks marks → behind ≡ spelling (length marks) ++ marks ++ rest → HeaderAhead (84 ∷ behind) ⊎ HeaderWrong (84 ∷ behind)
unfolding Ended
name_or_fault behind marks rest fits e =
    elim (ended_or_not rest) [
      | inl (name, more, none, f) ↦ text_or_not behind marks name more fits none (whole_is behind marks name rest more e f)
      | inr none ↦ inr (Truncated, length (84 ∷ behind), (EndsEarly, refl, (refl, inr (inr (marks, rest, ap (λ (t : List ℕ). 84 ∷ t) e, fits, none)))))
    ]

-- ---- the count and the column bytes

marks_or_fault : (behind marks rest : List ℕ) → FitsCount marks → behind ≡ spelling (length marks) ++ marks ++ rest → HeaderAhead (84 ∷ behind) ⊎ HeaderWrong (84 ∷ behind)
marks_or_fault behind marks rest fits e =
    elim (cases_Bool (list_any is_nonzero marks)) [
      | inl key ↦ name_or_fault behind marks rest (fits, key) e
      | inr none ↦ inr (NoKeyColumn, 1 + length (spelling (length marks)), (NoKeyMark, refl, (marks, rest, ap (λ (t : List ℕ). 84 ∷ t) e, fits, none, refl)))
    ]

few_or_marks : (behind rest : List ℕ) (count : ℕ) → behind ≡ spelling count ++ rest → 0 < count → count ≤ 2000 → HeaderAhead (84 ∷ behind) ⊎ HeaderWrong (84 ∷ behind)
few_or_marks behind rest count e some limit =
    elim (cases_lt (length rest) count) [
      | inl few ↦ inr (Truncated, length (84 ∷ behind), (EndsEarly, refl, (refl, inr (inl (count, rest, ap (λ (t : List ℕ). 84 ∷ t) e, some, limit, few)))))
      | inr enough ↦
          let wide : length (take count rest) ≡ count = length-take-le count rest enough in
          let split : behind ≡ spelling (length (take count rest)) ++ take count rest ++ drop count rest = rw wide (e ∙ ap (λ (t : List ℕ). spelling count ++ t) (sym (take-append-drop count rest)) ∙ sym (append_assoc (spelling count) (take count rest) (drop count rest))) in
          marks_or_fault behind (take count rest) (drop count rest) (omega (arith, wide, some), omega (arith, wide, limit)) split
    ]

bad_count : (behind rest : List ℕ) (count : ℕ) → count < 2 ^ 64 → behind ≡ spelling count ++ rest → (count ≡ 0) ⊎ (2000 < count) → HeaderWrong (84 ∷ behind)
bad_count behind rest count below e bad =
    (Columns, 1, (BadCount, refl, (count, rest, ap (λ (t : List ℕ). 84 ∷ t) e, below, bad, refl)))

count_or_fault : (behind rest : List ℕ) (count : ℕ) → count < 2 ^ 64 → behind ≡ spelling count ++ rest → HeaderAhead (84 ∷ behind) ⊎ HeaderWrong (84 ∷ behind)
count_or_fault behind rest count below e =
    elim (cases_eq count 0) [
      | inl none ↦ inr (bad_count behind rest count below e (inl none))
      | inr some ↦ elim (cases_lt 2000 count) [
        | inl many ↦ inr (bad_count behind rest count below e (inr many))
        | inr limit ↦ few_or_marks behind rest count e (omega (arith, some)) limit
      ]
    ]

module _ (varints : VarintLaws) where
  pub header_or_fault : HeaderOrFault
  header_or_fault behind are =
      elim (varints.found behind are) [
        | inl (count, rest, below, e) ↦ count_or_fault behind rest count below e
        | inr (inl partial) ↦ inr (Truncated, length (84 ∷ behind), (EndsEarly, refl, (refl, inl (behind, refl, partial))))
        | inr (inr long) ↦ inr (NotShortest, 1, (LongCount, refl, (behind, refl, long, refl)))
      ]
