-- Bytes ask something: a push, a pull, a catch, a wider table, or nothing, for a fault that they have.
use Rattle.std.proofs.Common.{◌≡◌, inl, inr, ℕ, suc, Bool, true, false, ◌≤◌, List, [], ◌∷◌, ◌++◌, length, Result, Ok, Err, refl, sym, ap, subst, ◌∙◌, arith}
use Rattle.std.specs.Str.{IsUtf8, is_utf8}
use Rattle.std.proofs.lemmas.Bool.{cases_lt}
use Rattle.std.proofs.lemmas.Bool.Decides.{eqb_tells}
use Rattle.std.proofs.lemmas.Str.{IsUtf8-from_is_utf8, is_utf8-from_IsUtf8}
use Rattle.cs_varint.specs.Bytes.{AreBytes}
use Rattle.cs_wire.specs.Laws.{AsksSomething}
use Rattle.cs_wire.specs.Numbers.{four_bytes, eight_bytes}
use Rattle.cs_wire.specs.OneSpelling.{after_four, after_eight}
use Rattle.cs_wire.specs.Requests.{push_numbers, pull_numbers, catch_numbers, widen_numbers, widen_request_spelling, push_tag, pull_tag, catch_tag, widen_tag, FitsPush, FitsPull, FitsCatch, FitsWiden, Asked, AsksPush, AsksPull, AsksCatch, AsksWiden, ReadsRequest}
use Rattle.cs_wire.specs.declared.fault.WireFault.{WireFault}
use Rattle.cs_wire.specs.declared.fault.WireFault.TheVariants.{Truncated, BadTag, TooLong, NotUtf8}
use Rattle.cs_wire.specs.declared.push_head.PushHead.{PushHead}
use Rattle.cs_wire.proofs.Begins.{begins_four, begins_eight, begins_named, begins_sized}

abbrev AsksIt : List ℕ → Type 0
AsksIt bytes = (asked : Result Asked WireFault) × ReadsRequest bytes asked

-- ---- a Push

sized_push : (head : PushHead) (size : ℕ) (part : List ℕ) → FitsPush head size → AsksIt (push_tag ∷ push_numbers head size part)
sized_push head size part fits =
    elim (cases_lt (length part) size) [
      | inl few ↦ (Err Truncated, inr (inr (inr (inr (inr (inl (head, size, part, fits, refl, few)))))))
      | inr enough ↦ elim (cases_lt size (length part)) [
        | inl many ↦ (Err TooLong, inl (head, size, part, fits, refl, many))
        | inr none ↦
            let is : size ≡ length part = omega arith in
            (Ok (AsksPush head part), (subst (FitsPush head) is fits, ap (λ (n : ℕ). push_tag ∷ push_numbers head n part) is))
      ]
    ]

long_push : (rest : List ℕ) → AreBytes rest → 24 ≤ length rest → AsksIt (push_tag ∷ rest)
long_push rest small long =
    let begins = begins_sized rest small long in
    let head : PushHead = record { origin = begins.origin; number = begins.second; base = begins.third } in
    subst (λ (r : List ℕ). AsksIt (push_tag ∷ r)) (sym begins.is)
    (sized_push head begins.size begins.rest (record { origin_fits = begins.origin_fits; number_fits = begins.second_fits; base_fits = begins.third_fits; size_fits = begins.size_fits }))

asks_push : (rest : List ℕ) → AreBytes rest → AsksIt (push_tag ∷ rest)
asks_push rest small =
    elim (cases_lt (length rest) 24) [
      | inl few ↦ (Err Truncated, inr (inl (rest, refl, few)))
      | inr long ↦ long_push rest small long
    ]

-- ---- a Pull

ended_pull : (first limit : ℕ) (more : List ℕ) → FitsPull first limit → AsksIt (pull_tag ∷ pull_numbers first limit more)
ended_pull first limit [] fits = (Ok (AsksPull first limit), (fits, refl))
ended_pull first limit (b ∷ more) fits = (Err TooLong, inr (inl (first, limit, b ∷ more, fits, refl, omega arith)))

long_pull : (rest : List ℕ) → AreBytes rest → 12 ≤ length rest → AsksIt (pull_tag ∷ rest)
long_pull rest small long =
    let first = begins_eight rest small (omega (arith, long)) in
    let limit = begins_four first.rest first.small (omega (arith, after_eight rest first.rest first.number first.is)) in
    let is : rest ≡ pull_numbers first.number limit.number limit.rest =
    first.is ∙ ap (λ (r : List ℕ). eight_bytes first.number ++ r) limit.is in
    subst (λ (r : List ℕ). AsksIt (pull_tag ∷ r)) (sym is)
    (ended_pull first.number limit.number limit.rest (record { first_fits = first.fits; limit_fits = limit.fits }))

asks_pull : (rest : List ℕ) → AreBytes rest → AsksIt (pull_tag ∷ rest)
asks_pull rest small =
    elim (cases_lt (length rest) 12) [
      | inl few ↦ (Err Truncated, inr (inr (inl (rest, refl, few))))
      | inr long ↦ long_pull rest small long
    ]

-- ---- a Catch

ended_catch : (origin first limit : ℕ) (more : List ℕ) → FitsCatch origin first limit → AsksIt (catch_tag ∷ catch_numbers origin first limit more)
ended_catch origin first limit [] fits = (Ok (AsksCatch origin first limit), (fits, refl))
ended_catch origin first limit (b ∷ more) fits = (Err TooLong, inr (inr (inl (origin, first, limit, b ∷ more, fits, refl, omega arith))))

long_catch : (rest : List ℕ) → AreBytes rest → 16 ≤ length rest → AsksIt (catch_tag ∷ rest)
long_catch rest small long =
    let origin = begins_four rest small (omega (arith, long)) in
    let first = begins_eight origin.rest origin.small (omega (arith, after_four rest origin.rest origin.number origin.is)) in
    let limit = begins_four first.rest first.small (omega (arith, after_four rest origin.rest origin.number origin.is, after_eight origin.rest first.rest first.number first.is)) in
    let is : rest ≡ catch_numbers origin.number first.number limit.number limit.rest =
    origin.is ∙ ap (λ (r : List ℕ). four_bytes origin.number ++ r) (first.is ∙ ap (λ (r : List ℕ). eight_bytes first.number ++ r) limit.is) in
    subst (λ (r : List ℕ). AsksIt (catch_tag ∷ r)) (sym is)
    (ended_catch origin.number first.number limit.number limit.rest (record { origin_fits = origin.fits; first_fits = first.fits; limit_fits = limit.fits }))

asks_catch : (rest : List ℕ) → AreBytes rest → AsksIt (catch_tag ∷ rest)
asks_catch rest small =
    elim (cases_lt (length rest) 16) [
      | inl few ↦ (Err Truncated, inr (inr (inr (inl (rest, refl, few)))))
      | inr long ↦ long_catch rest small long
    ]

-- ---- a Widen

not_both : (answer : Bool) → answer ≡ true → answer ≡ false → ⊥
not_both answer p q = cc

whole_widen : (number base width : ℕ) (table : List ℕ) (answer : Bool) → is_utf8 table ≡ answer → FitsWiden number base width (length table) → AsksIt (widen_request_spelling number base width table)
whole_widen number base width table true is fits = (Ok (AsksWiden number base width table), ((fits, IsUtf8-from_is_utf8 table is), refl))
whole_widen number base width table false is fits =
    (Err NotUtf8, (number, base, width, table, fits, refl, λ text. not_both (is_utf8 table) (is_utf8-from_IsUtf8 table text) is))

named_widen : (number base width size : ℕ) (part : List ℕ) → FitsWiden number base width size → AsksIt (widen_tag ∷ widen_numbers number base width size part)
named_widen number base width size part fits =
    elim (cases_lt (length part) size) [
      | inl few ↦ (Err Truncated, inr (inr (inr (inr (inr (inr (number, base, width, size, part, fits, refl, few)))))))
      | inr enough ↦ elim (cases_lt size (length part)) [
        | inl many ↦ (Err TooLong, inr (inr (inr (number, base, width, size, part, fits, refl, many))))
        | inr none ↦
            let is : length part ≡ size = omega arith in
            subst (λ (n : ℕ). AsksIt (widen_tag ∷ widen_numbers number base width n part)) is
            (whole_widen number base width part (is_utf8 part) refl (subst (FitsWiden number base width) (sym is) fits))
      ]
    ]

asks_widen : (rest : List ℕ) → AreBytes rest → AsksIt (widen_tag ∷ rest)
asks_widen rest small =
    elim (cases_lt (length rest) 24) [
      | inl few ↦ (Err Truncated, inr (inr (inr (inr (inl (rest, refl, few))))))
      | inr long ↦
          let begins = begins_named rest small long in
          subst (λ (r : List ℕ). AsksIt (widen_tag ∷ r)) (sym begins.is)
          (named_widen begins.number begins.base begins.width begins.size begins.rest (record { number_fits = begins.number_fits; base_fits = begins.base_fits; width_fits = begins.width_fits; size_fits = begins.size_fits }))
    ]

-- ---- a request

pub asks_something : AsksSomething
asks_something [] all = (Err Truncated, inl refl)
asks_something (tag ∷ rest) all =
    elim (eqb_tells tag push_tag) [
      | inl (e, is) ↦ subst (λ (t : ℕ). AsksIt (t ∷ rest)) (sym is) (asks_push rest (λ i. all (suc i)))
      | inr (e, no_push) ↦ elim (eqb_tells tag pull_tag) [
        | inl (f, is) ↦ subst (λ (t : ℕ). AsksIt (t ∷ rest)) (sym is) (asks_pull rest (λ i. all (suc i)))
        | inr (f, no_pull) ↦ elim (eqb_tells tag catch_tag) [
          | inl (g, is) ↦ subst (λ (t : ℕ). AsksIt (t ∷ rest)) (sym is) (asks_catch rest (λ i. all (suc i)))
          | inr (g, no_catch) ↦ elim (eqb_tells tag widen_tag) [
            | inl (h, is) ↦ subst (λ (t : ℕ). AsksIt (t ∷ rest)) (sym is) (asks_widen rest (λ i. all (suc i)))
            | inr (h, no_widen) ↦ (Err BadTag, (tag, rest, refl, record { no_push = no_push; no_pull = no_pull; no_catch = no_catch; no_widen = no_widen }))
          ]
        ]
      ]
    ]
