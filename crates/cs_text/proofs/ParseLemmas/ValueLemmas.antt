-- What follows a front.
use Rattle.std.proofs.Common.{◌≡◌, ◌≢◌, ℕ, true, false, eqb, cond, List, [], ◌∷◌, ◌++◌, refl, sym, ap, ◌∙◌, Bor}
use Rattle.std.specs.Prelude.{Option, Some, None, option_map, MatchOption}
use borrow.Author.Tests.{eq-eqb, eqb-true}
use Rattle.cs_value.specs.declared.value.Value.{Value}
use Rattle.cs_text.specs.parse.Texts.{onto}
use Rattle.cs_text.specs.parse.Values.{behind, value_in, values_in}
use Rattle.cs_text.proofs.ParseLemmas.TextLemmas.{list_more, onto_some}

behind_front : (front rest : List ℕ) → behind front (front ++ rest) ≡ Some rest
behind_front [] rest = refl
behind_front (x ∷ front) rest = ap (λ b. cond b (behind front (front ++ rest)) None) (eq-eqb x x refl) ∙ behind_front front rest

not_behind : (front word : List ℕ) → ((rest : List ℕ) → word ≢ front ++ rest) → behind front word ≡ None
not_behind [] word never = absurd (never word refl)
not_behind (x ∷ front) [] never = refl
not_behind (x ∷ front) (y ∷ word) never =
    elim (eqb y x) as (λ b. eqb y x ≡ b → cond b (behind front word) None ≡ None) [
      | true ↦ λ e. let same : y ≡ x = eqb-true _ _ e in
          not_behind front word (λ rest h. never rest (ap (λ z. z ∷ word) same ∙ ap (λ l. x ∷ l) h))
      | false ↦ λ e. refl
    ] refl

pub behind_is : (front word : List ℕ) (r : Option (Bor (List ℕ))) → MatchOption r ((rest : List ℕ) → word ≢ front ++ rest) (λ x. word ≡ front ++ x.now)
    → option_map {U = List ℕ} (λ rest. rest.now) r ≡ behind front word
behind_is front word None h = sym (not_behind front word h)
behind_is front word (Some x) h = sym (ap (behind front) h ∙ behind_front front x.now)

-- one more value
pub values_more : (values : List Value) (value : Value) (whole : Option (List Value)) (words rest : List (List ℕ)) (word : List ℕ)
    → whole ≡ option_map {U = List Value} (λ more. values ++ more) (values_in words) → words ≡ word ∷ rest → Some value ≡ value_in word
    → whole ≡ option_map {U = List Value} (λ more. (values ++ value ∷ []) ++ more) (values_in rest)
values_more values value whole words rest word e next is =
    list_more values value whole (values_in words) (values_in rest) e
    (ap values_in next ∙ ap (λ v. onto v (values_in rest)) (sym is) ∙ onto_some value (values_in rest))
