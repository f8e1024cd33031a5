-- Bytes and marks are the same or not, and of a list all elements have a fact or one has another. Crates above cite it.
use Rattle.std.specs.Prelude.{◌≡◌, ◌⊎◌, ℕ, suc, Bool, true, false, List, [], ◌∷◌, refl}
use Rattle.std.specs.List.{All, Contains}
use Rattle.std.specs.Str.{bytes_eq}
use Rattle.std.proofs.Common.{arith, inl, inr}
use Rattle.std.proofs.lemmas.List.Elements.{All-cons, All-nil}
use Rattle.std.proofs.lemmas.Slice.Eq.{bytes_eq-Decides}

-- it holds, or it doesn't
abbrev pub OrNot : Type 0 → Type 0
OrNot P = P ⊎ (P → ⊥)

pub both_or_not : {P Q : Type 0} → OrNot P → OrNot Q → OrNot (P × Q)
both_or_not (inl p) (inl q) = inl (p, q)
both_or_not (inl p) (inr not) = inr (λ pq. not pq.1)
both_or_not (inr not) q = inr (λ pq. not pq.0)

pub same_bytes_or_not : (a b : List ℕ) → OrNot (a ≡ b)
same_bytes_or_not a b =
    let split : (t : Bool) → bytes_eq a b ≡ t → OrNot (a ≡ b) =
    elim [
      | true ↦ λ e. inl ((bytes_eq-Decides a b).0 e)
      | false ↦ λ e. inr (λ is. let yes : bytes_eq a b ≡ true = (bytes_eq-Decides a b).1 is in cc)
    ] in
    split (bytes_eq a b) refl

same_mark_or_not : (a b : Bool) → OrNot (a ≡ b)
same_mark_or_not true true = inl refl
same_mark_or_not false false = inl refl
same_mark_or_not true false = inr (λ is. cc)
same_mark_or_not false true = inr (λ is. cc)

pub same_marks_or_not : (a b : List Bool) → OrNot (a ≡ b)
same_marks_or_not [] [] = inl refl
same_marks_or_not [] (y ∷ ys) = inr (λ is. cc)
same_marks_or_not (x ∷ xs) [] = inr (λ is. cc)
same_marks_or_not (x ∷ xs) (y ∷ ys) =
    elim (both_or_not (same_mark_or_not x y) (same_marks_or_not xs ys)) [
      | inl same ↦ let first = same.0 in let others = same.1 in inl (cc)
      | inr not ↦ inr (λ is. not (cc, cc))
    ]

-- where each element has one of two facts, all have the first, or one has the second
pub all_or_one : {X : Type 0} (P Q : X → Type 0) → ((x : X) → P x ⊎ Q x) → (xs : List X) → All P xs ⊎ ((x : X) × Contains xs x × Q x)
all_or_one P Q either [] = inl (All-nil P)
all_or_one P Q either (x ∷ xs) =
    elim (either x) [
      | inr other ↦ inr (x, (0, omega arith, refl), other)
      | inl holds ↦ elim (all_or_one P Q either xs) [
        | inl all ↦ inl (All-cons P x xs holds all)
        | inr (y, (k, within, is), other) ↦ inr (y, (suc k, omega (arith, within), is), other)
      ]
    ]
