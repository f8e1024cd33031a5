use Rattle.std.proofs.Common.{◌≡◌, ◌∙◌, sym, ◌<◌, ◌≤◌, ℕ, List, [], ◌∷◌, length, get_or, arith, rules}
use Rattle.cs_sql.proofs.schema.judging.is_only.Goals as goal

one : {A : Type 0} (xs : List A) (a : A) → 1 ≤ length xs → length xs < 2 → a ≡ get_or xs 0 a → xs ≡ a ∷ []
one [] a low high x = absurd (omega (arith, low))
one (p ∷ []) a low high x = let u = sym x in λ i. u i ∷ []
one (p ∷ q ∷ more) a low high x = absurd (omega (arith, high))

first : {a b : List ℕ} → ◌≡◌ {A = List (List ℕ)} (a ∷ []) (b ∷ []) → a ≡ b
first e = cc

pub returns-in-len1 : goal.returns-in-len1
returns-in-len1 c =
    let item : c.unique-item.result ≡ c.as_slice.result.now = sym c.as_slice.ensures in
    let all : c.args.uniques.now ≡ c.unique-item.result ∷ [] = one c.args.uniques.now c.unique-item.result c.in-len1.len_at_least c.in-len1.len_below c.unique-item.is in (
      λ is. let same : c.as_slice.result.now ≡ c.args.places.now = search rules in all ∙ (λ i. (item ∙ same) i ∷ []),
      λ is.
          let ends : c.unique-item.result ∷ [] ≡ c.args.places.now ∷ [] = sym all ∙ is in
          let same : c.as_slice.result.now ≡ c.args.places.now = sym item ∙ first ends in
          search rules,
    )
