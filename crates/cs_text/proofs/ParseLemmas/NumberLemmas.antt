-- Numbers as words, by what `parse` answers.
use Rattle.std.proofs.Common.{◌≡◌, ◌≢◌, ℕ, zero, suc, ◌+◌, ◌<◌, ◌^◌, Bool, true, false, eqb, cond, ◌&&◌, List, [], ◌∷◌, length, get_or, drop, refl, subst, sym, ap, ◌∙◌, arith, ℤ, w64}
use Rattle.std.specs.Prelude.{Some, None, Result, Ok, Err, IsUtf8}
use Rattle.std.specs.Result.{result_ok}
use Rattle.std.specs.Str.{all_ascii_digits}
use Rattle.std.specs.Str.Parse.{ParsesSigned, ParsesUnsigned, digits_value}
use Rattle.std.proofs.lemmas.Str.{IsUtf8-from_ascii}
use Rattle.std.proofs.lemmas.Str.Parse.{IsNumeralModel, numerals_by_value, parse_plain, parse_signed_minus, parse_signed_plain, tells_all_ascii_digits}
use Rattle.std.proofs.lemmas.Bool.{false≢true}
use borrow.Author.Tests.{lt-ltb, ltb-true, eq-eqb, eqb-true}
use Rattle.cs_text.specs.parse.Numbers.{IsNoNumber, negative, number_below, positive, signed_in}

abbrev pub Digits : List ℕ → Type 0
Digits = λ ds. all_ascii_digits ds ≡ true

pub own : IsNumeralModel Digits (digits_value 10)
own = numerals_by_value Digits tells_all_ascii_digits

passed : (a b : Bool) (v : ℕ) → a ≡ true → b ≡ true → cond (a && b) (Some v) None ≡ Some v
passed true true v e f = refl
passed true false v e f = absurd (cc)
passed false b v e f = absurd (cc)

not_passed : (a b : Bool) (v : ℕ) → (a ≡ true → b ≡ true → ⊥) → cond (a && b) (Some v) None ≡ None
not_passed true true v never = absurd (never refl refl)
not_passed true false v never = refl
not_passed false b v never = refl

abbrev pub Below : ℕ → List ℕ → Type 0
Below most bs = Digits bs × (0 < length bs) × (digits_value 10 bs < most)

pub number_some : (most : ℕ) (bs : List ℕ) → Below most bs → number_below most bs ≡ Some (digits_value 10 bs)
number_some most [] is = absurd (omega (arith, is.1))
number_some most (c ∷ cs) is = passed _ _ _ is.0 (lt-ltb _ _ is.2)

number_none : (most : ℕ) (bs : List ℕ) → (Below most bs → ⊥) → number_below most bs ≡ None
number_none most [] never = refl
number_none most (c ∷ cs) never = not_passed _ _ _ (λ d t. never (d, omega arith, ltb-true _ _ t))

pub unsigned_is : {E : Type 0} (k : ℕ) (bs text : List ℕ) (r : Result ℕ E) → text ≡ bs → get_or bs 0 0 ≢ 43 → ParsesUnsigned k 10 text r
    → result_ok r ≡ number_below (2 ^ k) bs
unsigned_is {E} k bs text (Ok n) same plain h =
    let told = parse_plain own {E = E} k bs (Ok n) (subst (λ t. ParsesUnsigned {E = E} k 10 t (Ok n)) same h) plain in
    ap Some told.1 ∙ sym (number_some (2 ^ k) bs told.0)
unsigned_is {E} k bs text (Err e) same plain h =
    sym (number_none (2 ^ k) bs (parse_plain own {E = E} k bs (Err e) (subst (λ t. ParsesUnsigned {E = E} k 10 t (Err e)) same h) plain))

minus_is : {E : Type 0} (bs : List ℕ) (r : Result ℤ E) → get_or bs 0 0 ≡ 45 → ParsesSigned w64 10 bs r
    → result_ok r ≡ negative (number_below (2 ^ 63 + 1) (drop 1 bs))
minus_is {E} bs (Ok n) minus h =
    let told = parse_signed_minus own {E = E} w64 bs (Ok n) h minus in
    ap Some told.1 ∙ sym (ap negative (number_some (2 ^ 63 + 1) (drop 1 bs) (told.0.0, told.0.1, omega (arith, told.0.2))))
minus_is {E} bs (Err e) minus h =
    sym (ap negative (number_none (2 ^ 63 + 1) (drop 1 bs) (λ is. parse_signed_minus own {E = E} w64 bs (Err e) h minus (is.0, is.1, omega (arith, is.2)))))

plain_is : {E : Type 0} (bs : List ℕ) (r : Result ℤ E) → get_or bs 0 0 ≢ 43 → get_or bs 0 0 ≢ 45 → ParsesSigned w64 10 bs r
    → result_ok r ≡ positive (number_below (2 ^ 63) bs)
plain_is {E} bs (Ok n) plus minus h =
    let told = parse_signed_plain own {E = E} w64 bs (Ok n) h plus minus in
    ap Some told.1 ∙ sym (ap positive (number_some (2 ^ 63) bs told.0))
plain_is {E} bs (Err e) plus minus h =
    sym (ap positive (number_none (2 ^ 63) bs (parse_signed_plain own {E = E} w64 bs (Err e) h plus minus)))

pub signed_is : {E : Type 0} (bs text : List ℕ) (r : Result ℤ E) → text ≡ bs → get_or bs 0 0 ≢ 43 → ParsesSigned w64 10 text r
    → result_ok r ≡ signed_in bs
signed_is {E} bs text r same plus h =
    let here : ParsesSigned w64 10 bs r = subst (λ t. ParsesSigned {E = E} w64 10 t r) same h in
    elim (eqb (get_or bs 0 0) 45) as (λ b. eqb (get_or bs 0 0) 45 ≡ b
    → result_ok r ≡ cond b (negative (number_below (2 ^ 63 + 1) (drop 1 bs))) (positive (number_below (2 ^ 63) bs))) [
      | true ↦ λ e. minus_is bs r (eqb-true _ _ e) here
      | false ↦ λ e. plain_is bs r plus (λ m. absurd (false≢true (sym e ∙ eq-eqb _ _ m))) here
    ] refl

digits_ascii : (bs : List ℕ) → Digits bs → (i : ℕ) → get_or bs i 0 < 128
digits_ascii [] d i = omega arith
digits_ascii (c ∷ cs) d zero = omega (arith, (tells_all_ascii_digits.parts c cs d).0)
digits_ascii (c ∷ cs) d (suc i) = digits_ascii cs (tells_all_ascii_digits.parts c cs d).1 i

minus_ascii : (bs : List ℕ) → get_or bs 0 0 ≡ 45 → Digits (drop 1 bs) → (i : ℕ) → get_or bs i 0 < 128
minus_ascii [] m d i = omega arith
minus_ascii (c ∷ cs) m d zero = omega arith
minus_ascii (c ∷ cs) m d (suc i) = digits_ascii cs d i

-- what is no text spells no number
pub no_text : (bs : List ℕ) → (IsUtf8 bs → ⊥) → IsNoNumber bs
no_text bs broken = (
  λ most. number_none most bs (λ is. broken (IsUtf8-from_ascii bs (digits_ascii bs is.0))),
  elim (eqb (get_or bs 0 0) 45) as (λ b. eqb (get_or bs 0 0) 45 ≡ b
      → cond b (negative (number_below (2 ^ 63 + 1) (drop 1 bs))) (positive (number_below (2 ^ 63) bs)) ≡ None) [
        | true ↦ λ e. ap negative (number_none (2 ^ 63 + 1) (drop 1 bs) (λ is. broken (IsUtf8-from_ascii bs (minus_ascii bs (eqb-true _ _ e) is.0))))
        | false ↦ λ e. ap positive (number_none (2 ^ 63) bs (λ is. broken (IsUtf8-from_ascii bs (digits_ascii bs is.0))))
      ] refl,
)
