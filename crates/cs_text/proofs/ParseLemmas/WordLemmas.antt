-- The words of a line, by its first space.
use Rattle.std.proofs.Common.{◌≡◌, ◌≢◌, ℕ, zero, suc, ◌+◌, ◌≤◌, ◌<◌, ◌-◌, Bool, true, false, eqb, ltb, cond, List, [], ◌∷◌, length, take, drop, refl, sym, ap, ◌∙◌, arith, add-one, take_all, length-drop, Bor}
use Rattle.std.specs.Prelude.{Option, Some, None, IsTrue, not, option_map, position}
use Rattle.std.specs.List.{prefix_len}
use Rattle.std.specs.Option.{is_some}
use borrow.Author.Tests.{ltb-true, ltb-false}
use Rattle.cs_text.specs.parse.Words.{into_first, words_in, words_left}

abbrev is_space : ℕ → Bool
is_space byte = eqb byte 32

-- how many bytes stand before the first space
abbrev before : List ℕ → ℕ
before line = prefix_len (λ byte. not (is_space byte)) line

words_at : (line : List ℕ) (k : ℕ) → before line ≡ k → k < length line → words_in line ≡ take k line ∷ words_in (drop (suc k) line)
words_at [] k e lt = absurd (omega arith)
words_at (x ∷ line) zero e lt =
    elim (eqb x 32) as (λ b. cond (not b) (1 + before line) 0 ≡ 0
    → cond b ([] ∷ words_in line) (into_first x (words_in line)) ≡ [] ∷ words_in line) [
      | true ↦ λ h. refl
      | false ↦ λ h. absurd (omega arith)
    ] e
words_at (x ∷ line) (suc k) e lt =
    elim (eqb x 32) as (λ b. cond (not b) (1 + before line) 0 ≡ suc k
    → cond b ([] ∷ words_in line) (into_first x (words_in line)) ≡ (x ∷ take k line) ∷ words_in (drop (suc k) line)) [
      | true ↦ λ h. absurd (omega arith)
      | false ↦ λ h. ap (into_first x) (words_at line k (omega arith) (omega arith))
    ] e

words_alone : (line : List ℕ) → length line ≤ before line → words_in line ≡ line ∷ []
words_alone [] le = refl
words_alone (x ∷ line) le =
    elim (eqb x 32) as (λ b. suc (length line) ≤ cond (not b) (1 + before line) 0
    → cond b ([] ∷ words_in line) (into_first x (words_in line)) ≡ (x ∷ line) ∷ []) [
      | true ↦ λ h. absurd (omega arith)
      | false ↦ λ h. ap (into_first x) (words_alone line (omega arith))
    ] le

place_is : (b : Bool) (n most at : ℕ) → ltb n most ≡ b → Some at ≡ cond b (Some n) None → (n ≡ at) × (at < most)
place_is true n most at t e = let same : at ≡ n = cc in (sym same, omega (arith, ltb-true n most t))
place_is false n most at t e = absurd (cc)

-- the first word, and what stands behind the space
pub words_split : (line : List ℕ) (at : ℕ) → Some at ≡ position is_space line
    → words_in line ≡ take at line ∷ words_in (take (length line - (at + 1)) (drop (at + 1) line))
words_split line at e =
    let place = place_is _ (before line) (length line) at refl e in
    let rest : take (length line - (at + 1)) (drop (at + 1) line) ≡ drop (suc at) line =
    take_all (length line - (at + 1)) (drop (at + 1) line) (omega (arith, length-drop (at + 1) line)) ∙ ap (λ n. drop n line) (add-one at) in
    words_at line at place.0 place.1 ∙ ap (λ w. take at line ∷ words_in w) (sym rest)

no_place : (b : Bool) (n most : ℕ) → ltb n most ≡ b → None ≡ cond b (Some n) None → most ≤ n
no_place true n most t e = absurd (cc)
no_place false n most t e = omega (arith, ltb-false n most t)

pub words_whole : (line : List ℕ) → None ≡ position is_space line → words_in line ≡ line ∷ []
words_whole line e = words_alone line (no_place _ (before line) (length line) refl e)

-- there is a first word
into_some : (x : ℕ) (words : List (List ℕ)) → into_first x words ≢ []
into_some x [] = λ e. absurd (cc)
into_some x (word ∷ words) = λ e. absurd (cc)

words_some : (line : List ℕ) → words_in line ≢ []
words_some [] = λ e. absurd (cc)
words_some (x ∷ line) =
    elim (eqb x 32) as (λ b. cond b ([] ∷ words_in line) (into_first x (words_in line)) ≢ []) [
      | true ↦ λ e. absurd (cc)
      | false ↦ into_some x (words_in line)
    ]

-- whether no word is left
pub left_none : (rest : Option (Bor (List ℕ))) (none : Bool) (words : List (List ℕ)) → words_left (option_map {U = List ℕ} (λ line. line.now) rest) ≡ words
    → is_some rest ≡ not none → (IsTrue none → words ≡ []) × (words ≡ [] → IsTrue none)
left_none None true words e f = (λ _. sym e, λ _. refl)
left_none None false words e f = absurd (cc)
left_none (Some line) true words e f = absurd (cc)
left_none (Some line) false words e f = (λ t. absurd (cc), λ g. absurd (words_some line.now (e ∙ g)))
