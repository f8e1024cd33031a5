-- Texts and bytes, byte by byte.
use Rattle.std.proofs.Common.{◌≡◌, ℕ, ◌<◌, ◌-◌, true, false, eqb, cond, List, [], ◌∷◌, ◌++◌, length, take, drop, get_or, refl, sym, ap, ◌∙◌, arith, append_assoc, take_all, length-drop}
use Rattle.std.specs.Prelude.{Option, Some, None, option_map, IsUtf8}
use Rattle.std.specs.Str.{is_utf8}
use Rattle.std.proofs.lemmas.Str.{IsUtf8-from_is_utf8, is_utf8-from_IsUtf8}
use Rattle.cs_text.specs.Text.{is_plain}
use Rattle.cs_text.specs.parse.Texts.{byte_in, digit_value, onto, plain_in, text_in, unescaped, utf8_of}

plain_not_percent : (a : ℕ) → is_plain a ≡ true → eqb a 37 ≡ false
plain_not_percent a p = grind arith

abbrev with : ℕ → Option (List ℕ) → Option (List ℕ)
with a rest = option_map {U = List ℕ} (λ bytes. a ∷ bytes) rest

onto_plain : (a : ℕ) (rest : Option (List ℕ)) → is_plain a ≡ true → onto (plain_in a) rest ≡ with a rest
onto_plain a None p = ap (λ b. onto (cond b (Some a) None) None) p
onto_plain a (Some bytes) p = ap (λ b. onto (cond b (Some a) None) (Some bytes)) p

-- a plain byte spells itself
pub plain_first : (text rest : List ℕ) → 0 < length text → rest ≡ drop 1 text → is_plain (get_or text 0 0) ≡ true
    → unescaped text ≡ option_map {U = List ℕ} (λ bytes. get_or text 0 0 ∷ bytes) (unescaped rest)
plain_first [] rest some is plain = absurd (omega arith)
plain_first (a ∷ []) rest some is plain = rw is (onto_plain a (Some []) plain)
plain_first (a ∷ b ∷ []) rest some is plain = rw is (onto_plain a (unescaped (b ∷ [])) plain)
plain_first (a ∷ b ∷ c ∷ text) rest some is plain =
    rw is (
    ap (λ k. cond k (onto (byte_in (digit_value 65 b) (digit_value 65 c)) (unescaped text)) (onto (plain_in a) (unescaped (b ∷ c ∷ text)))) (plain_not_percent a plain)
    ∙ onto_plain a (unescaped (b ∷ c ∷ text)) plain
    )

-- what is left behind the first byte
pub rest_is : (text : List ℕ) → 0 < length text → take (length text - 1) (drop 1 text) ≡ drop 1 text
rest_is text some = take_all (length text - 1) (drop 1 text) (omega (arith, length-drop 1 text))

-- one more item of a list
pub list_more : {A : Type 0} (items : List A) (one : A) (whole rest after : Option (List A))
    → whole ≡ option_map {U = List A} (λ more. items ++ more) rest
    → rest ≡ option_map {U = List A} (λ more. one ∷ more) after → whole ≡ option_map {U = List A} (λ more. (items ++ one ∷ []) ++ more) after
list_more items one whole rest None e f = e ∙ ap (option_map (λ more. items ++ more)) f
list_more items one whole rest (Some more) e f =
    e ∙ ap (option_map (λ more. items ++ more)) f ∙ ap Some (sym (append_assoc items (one ∷ []) more))

-- what is put in front, in the same words
pub onto_some : {A : Type 0} (one : A) (rest : Option (List A)) → onto (Some one) rest ≡ option_map {U = List A} (λ more. one ∷ more) rest
onto_some one None = refl
onto_some one (Some more) = refl

-- the text of these bytes
pub text_some : (word bytes text : List ℕ) → Some bytes ≡ unescaped word → IsUtf8 bytes → text ≡ bytes → Some text ≡ text_in word
text_some word bytes text is utf8 same =
    ap Some same ∙ sym (ap (λ b. cond b (Some bytes) None) (is_utf8-from_IsUtf8 bytes utf8)) ∙ ap utf8_of is

pub text_none : (word bytes : List ℕ) → Some bytes ≡ unescaped word → (IsUtf8 bytes → ⊥) → None ≡ text_in word
text_none word bytes is broken =
    elim (is_utf8 bytes) as (λ b. is_utf8 bytes ≡ b → None ≡ cond b (Some bytes) None) [
      | true ↦ λ e. absurd (broken (IsUtf8-from_is_utf8 bytes e))
      | false ↦ λ e. refl
    ] refl ∙ ap utf8_of is
