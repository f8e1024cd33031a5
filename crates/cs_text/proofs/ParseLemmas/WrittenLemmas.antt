-- What is written of a value is read as that value.
use Rattle.std.proofs.Common.{◌≡◌, ◌≢◌, ℕ, suc, ◌+◌, ◌*◌, ◌/◌, ◌%◌, ◌<◌, ◌^◌, true, false, cond, All, List, [], ◌∷◌, ◌++◌, refl, ap, ap₂, ◌∙◌, arith, ℤ, pos, negsuc, w64}
use Rattle.std.specs.Prelude.{Option, Some, None, option_map, IsUtf8, FitsSigned, codes}
use Rattle.std.specs.Fmt.{decimal, digit_glyph, signed_decimal}
use Rattle.std.specs.Str.{bytes_eq}
use Rattle.std.specs.Str.Parse.{digits_value}
use Rattle.std.proofs.lemmas.Bool.Decides.{nat_tests}
use Rattle.std.proofs.lemmas.Fmt.{decimal_is_IsNumeral}
use Rattle.std.proofs.lemmas.List.Elements.{All-head, All-tail}
use Rattle.std.proofs.lemmas.Slice.Eq.{bytes_eq-Decides}
use Rattle.std.proofs.lemmas.Str.{is_utf8-from_IsUtf8}
use Rattle.std.proofs.lemmas.Str.Parse.{tells_all_ascii_digits}
use borrow.Author.Tests.{ne_eqb}
use Rattle.cs_value.specs.declared.value.Value.{Value}
use Rattle.cs_value.specs.declared.value.Value.TheVariants.{Null, Int, Text, Blob}
use Rattle.cs_text.specs.Text.{escaped, escaped_text, hex_text, is_plain, value_text}
use Rattle.cs_text.specs.parse.Laws.{IsWritten}
use Rattle.cs_text.specs.parse.Numbers.{negative, number_below, positive, signed_in}
use Rattle.cs_text.specs.parse.Texts.{byte_in, bytes_in, digit_value, onto, text_in, unescaped, utf8_of}
use Rattle.cs_text.specs.parse.Values.{behind, tagged_in, value_in}
use Rattle.cs_text.proofs.ParseLemmas.NumberLemmas.{Below, number_some, own}
use Rattle.cs_text.proofs.ParseLemmas.TextLemmas.{onto_some, plain_first}

upper_digit : (d : ℕ) → d < 16 → digit_value 65 (digit_glyph true d) ≡ Some d
upper_digit d lt = grind (arith, nat_tests)

lower_digit : (d : ℕ) → d < 16 → digit_value 97 (digit_glyph false d) ≡ Some d
lower_digit d lt = grind (arith, nat_tests)

halves : (b : ℕ) → b < 256 → (b / 16 < 16) × (b % 16 < 16) × (16 * (b / 16) + b % 16 ≡ b)
halves b lt = (omega arith, omega arith, omega arith)

byte_is : (high low : Option ℕ) (h l b : ℕ) → high ≡ Some h → low ≡ Some l → 16 * h + l ≡ b → byte_in high low ≡ Some b
byte_is high low h l b e f is = ap₂ byte_in e f ∙ ap Some is

-- a byte with its escape is read as the byte
escaped_is : (b : ℕ) (rest : List ℕ) → b < 256 → unescaped (escaped b ++ rest) ≡ option_map {U = List ℕ} (λ bytes. b ∷ bytes) (unescaped rest)
escaped_is b rest lt =
    elim (is_plain b) as (λ k. is_plain b ≡ k → unescaped (cond k (b ∷ []) (37 ∷ digit_glyph true (b / 16) ∷ digit_glyph true (b % 16) ∷ []) ++ rest) ≡ option_map {U = List ℕ} (λ bytes. b ∷ bytes) (unescaped rest)) [
      | true ↦ λ e. plain_first (b ∷ rest) rest (omega arith) refl e
      | false ↦ λ e.
          let parts = halves b lt in
          ap (λ o. onto o (unescaped rest)) (byte_is _ _ _ _ b (upper_digit (b / 16) parts.0) (upper_digit (b % 16) parts.1) parts.2) ∙ onto_some b (unescaped rest)
    ] refl

escaped_whole : (text : List ℕ) → All (λ byte. byte < 256) text → unescaped (escaped_text text) ≡ Some text
escaped_whole [] small = refl
escaped_whole (b ∷ text) small =
    escaped_is b (escaped_text text) (All-head (λ byte. byte < 256) b text small)
    ∙ ap (option_map (λ bytes. b ∷ bytes)) (escaped_whole text (All-tail (λ byte. byte < 256) b text small))

text_is : (text : List ℕ) → All (λ byte. byte < 256) text → IsUtf8 text → text_in (escaped_text text) ≡ Some text
text_is text small utf8 = ap utf8_of (escaped_whole text small) ∙ ap (λ b. cond b (Some text) None) (is_utf8-from_IsUtf8 text utf8)

hex_whole : (bytes : List ℕ) → All (λ byte. byte < 256) bytes → bytes_in (hex_text bytes) ≡ Some bytes
hex_whole [] small = refl
hex_whole (b ∷ bytes) small =
    let parts = halves b (All-head (λ byte. byte < 256) b bytes small) in
    ap (λ o. onto o (bytes_in (hex_text bytes))) (byte_is _ _ _ _ b (lower_digit (b / 16) parts.0) (lower_digit (b % 16) parts.1) parts.2)
    ∙ ap (onto (Some b)) (hex_whole bytes (All-tail (λ byte. byte < 256) b bytes small))

not_equal : (xs ys : List ℕ) → xs ≢ ys → bytes_eq xs ys ≡ false
not_equal xs ys differ =
    elim (bytes_eq xs ys) as (λ b. bytes_eq xs ys ≡ b → b ≡ false) [
      | true ↦ λ e. absurd (differ ((bytes_eq-Decides xs ys).0 e))
      | false ↦ λ e. refl
    ] refl

-- a word that begins with a digit or a minus is read as a number
number_first : (c : ℕ) (cs : List ℕ) → c < 58 → value_in (c ∷ cs) ≡ option_map Int (signed_in (c ∷ cs))
number_first c cs lt =
    ap (λ b. cond b (Some Null) (tagged_in (behind (codes "t=") (c ∷ cs)) (behind (codes "x=") (c ∷ cs)) (c ∷ cs)))
    (not_equal (c ∷ cs) (codes "null") (λ e. let first : c ≡ 110 = cc in omega arith))
    ∙ ap₂ (λ t x. tagged_in t x (c ∷ cs))
    (ap (λ b. cond b (behind (61 ∷ []) cs) None) (ne_eqb c 116 (λ e. omega arith)))
    (ap (λ b. cond b (behind (61 ∷ []) cs) None) (ne_eqb c 120 (λ e. omega arith)))

-- digits alone
positive_is : (word : List ℕ) (n : ℕ) → Below (2 ^ 63) word → digits_value 10 word ≡ n → value_in word ≡ Some (Int (pos n))
positive_is [] n below is = absurd (omega (arith, below.1))
positive_is (c ∷ cs) n below is =
    let range = (tells_all_ascii_digits.parts c cs below.0).0 in
    number_first c cs (omega (arith, range))
    ∙ ap (option_map Int) (
    ap (λ b. cond b (negative (number_below (2 ^ 63 + 1) cs)) (positive (number_below (2 ^ 63) (c ∷ cs)))) (ne_eqb c 45 (λ e. omega (arith, range)))
    ∙ ap positive (number_some (2 ^ 63) (c ∷ cs) below) ∙ ap (λ m. Some (pos m)) is)

integer_is : (number : ℤ) → FitsSigned w64 number → value_in (signed_decimal number) ≡ Some (Int number)
integer_is (pos n) fits =
    let told = decimal_is_IsNumeral n (omega (arith, fits)) in
    positive_is (decimal n) n (own.from (decimal n) told.0.1, told.0.0, omega (arith, told.1, fits)) told.1
integer_is (negsuc n) fits =
    let told = decimal_is_IsNumeral (suc n) (omega (arith, fits)) in
    number_first 45 (decimal (suc n)) (omega arith)
    ∙ ap (λ o. option_map Int (negative o)) (number_some (2 ^ 63 + 1) (decimal (suc n)) (own.from (decimal (suc n)) told.0.1, told.0.0, omega (arith, told.1, fits)) ∙ ap Some told.1)

pub written_is : (value : Value) → IsWritten value → value_in (value_text value) ≡ Some value
written_is Null is = refl
written_is (Int number) is = integer_is number is
written_is (Text text) is = ap (option_map Text) (text_is text is.1 is.0)
written_is (Blob bytes) is = ap (option_map Blob) (hex_whole bytes is)
