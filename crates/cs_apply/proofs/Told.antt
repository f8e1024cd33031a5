-- The numbers of changes, as they are held.
use Rattle.std.proofs.Common.{◌≡◌, ◌+◌, ◌-◌, ℕ, zero, suc, List, [], ◌∷◌, Option, Some, None, length, get_or, map, replicate, drop, false, refl, ap, ◌∙◌, arith}
use Rattle.std.specs.Bool.{◌==◌}
use Rattle.std.proofs.lemmas.List.{length-map, length-replicate}
use Rattle.cs_apply.specs.Numbers.{number_of, numbers_told, HaveNumbers}
use Rattle.cs_apply.proofs.Giving.{AreGiven, AreKept}

abbrev none : Option ℕ
none = None

-- before a change is told
same_at : {A : Type 0} (a : A) (count at : ℕ) → get_or (replicate count a) at a ≡ a
same_at a zero at = refl
same_at a (suc count) zero = refl
same_at a (suc count) (suc at) = same_at a count at

-- the number of one that is told
told_at : (told : List ℕ) (at : ℕ) → get_or (map number_of told) at None ≡ number_of (get_or told at 0)
told_at [] at = refl
told_at (first ∷ told) zero = refl
told_at (first ∷ told) (suc at) = told_at told at

-- the number there
told_there : (count : ℕ) (told : List ℕ) (at : ℕ) → get_or (numbers_told count told) at none ≡ number_of (get_or told at 0)
told_there count [] at = same_at none count at
told_there count (first ∷ told) at = told_at (first ∷ told) at

-- one more than a number is told
number_told : (number : ℕ) → number_of (number + 1) ≡ Some number
number_told number =
    let same : number + 1 ≡ suc number = omega arith in
    ap number_of same

told_long : (count : ℕ) (told : List ℕ) → length told ≡ count → length (numbers_told count told) ≡ count
told_long count [] long = length-replicate count none
told_long count (first ∷ told) long = length-map (first ∷ told) number_of ∙ long

-- each group has its number, and nothing else is told
pub numbers_given : (groups : List (List ℕ)) (waiting : List ℕ) (count : ℕ) (fresh told : List ℕ) → fresh ≡ replicate count 0 → length told ≡ count
    → AreGiven groups waiting (length waiting) told → AreKept groups waiting (length waiting) fresh told → HaveNumbers groups waiting count (numbers_told count told)
numbers_given groups waiting count fresh told is long put kept = record {
  long = told_long count told long;
  given = λ number at less inside. told_there count told at ∙ (ap number_of (put number at less inside) ∙ number_told number);
  others = λ at outside. told_there count told at ∙ ap number_of (kept at outside ∙ (ap (λ (all : List ℕ). get_or all at 0) is ∙ same_at 0 count at));
}

-- those behind so many, where nothing is told
pub none_behind : (count some : ℕ) (told : List ℕ) → length told ≡ 0 → numbers_told (count - some) told ≡ drop some (numbers_told count told)
none_behind count some (first ∷ told) empty = absurd (omega (arith, empty))
none_behind count some [] empty = replicates count some
  where
    replicates : (count some : ℕ) → numbers_told (count - some) [] ≡ drop some (numbers_told count [])
    replicates count zero = let same : count - 0 ≡ count = omega arith in ap (λ n. numbers_told n []) same
    replicates zero (suc some) = let same : zero - suc some ≡ zero = omega arith in ap (λ n. numbers_told n []) same
    replicates (suc count) (suc some) =
        let same : suc count - suc some ≡ count - some = omega arith in ap (λ n. numbers_told n []) same ∙ replicates count some

-- and where it is
pub told_behind : (count some : ℕ) (told : List ℕ) → (length told == 0) ≡ false → numbers_told (length (drop some told)) (drop some told) ≡ drop some (numbers_told count told)
told_behind count some [] any = absurd (let e = any in cc)
told_behind count some (first ∷ told) any = all_told (drop some (first ∷ told)) ∙ maps some (first ∷ told)
  where
    all_told : (told : List ℕ) → numbers_told (length told) told ≡ map number_of told
    all_told [] = refl
    all_told (first ∷ told) = refl

    maps : (some : ℕ) (told : List ℕ) → map number_of (drop some told) ≡ drop some (map number_of told)
    maps zero told = refl
    maps (suc some) [] = refl
    maps (suc some) (first ∷ told) = maps some told
