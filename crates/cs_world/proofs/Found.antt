-- What stands in a list that grew, of which one item was replaced, or of which a part was taken.
use Rattle.std.proofs.Common.{◌<◌, ◌≡◌, ◌≢◌, ◌≤◌, ◌+◌, ◌++◌, ℕ, zero, suc, List, [], ◌∷◌, Option, Some, None, length, slice_get, slice_set, take, drop, refl, sym, ap, subst, inl, inr, arith}
use Rattle.std.specs.Prelude.{◌⊎◌, All, IsSome}
use Rattle.std.proofs.lemmas.List.Elements.{All-cons, All-head, All-nil, All-tail}

pub some_is : {X : Type 0} {o : Option X} {x : X} → o ≡ Some x → IsSome o
some_is {o = o} {x = x} is = rw is refl

pub still : {X : Type 0} (xs ys : List X) (x : X) (k : ℕ) → slice_get xs k ≡ Some x → slice_get (xs ++ ys) k ≡ Some x
still [] ys x k at = absurd (cc)
still (z ∷ zs) ys x zero at = at
still (z ∷ zs) ys x (suc k) at = still zs ys x k at

pub in_one_more : {X : Type 0} (xs : List X) (x y : X) (k : ℕ) → slice_get (xs ++ y ∷ []) k ≡ Some x → (slice_get xs k ≡ Some x) ⊎ ((k ≡ length xs) × (x ≡ y))
in_one_more [] x y zero at = inr (refl, cc)
in_one_more [] x y (suc k) at = absurd (cc)
in_one_more (z ∷ zs) x y zero at = inl at
in_one_more (z ∷ zs) x y (suc k) at =
    elim (in_one_more zs x y k at) [ inl h ↦ inl h | inr h ↦ inr (ap suc h.0, h.1) ]

pub added : {X : Type 0} (xs : List X) (y : X) → slice_get (xs ++ y ∷ []) (length xs) ≡ Some y
added [] y = refl
added (z ∷ zs) y = added zs y

pub set_at : {X : Type 0} (xs : List X) (i : ℕ) (x : X) (j : ℕ) (y : X) → slice_get (slice_set xs i x) j ≡ Some y → ((j ≡ i) × (y ≡ x)) ⊎ ((j ≢ i) × (slice_get xs j ≡ Some y))
set_at [] i x j y h = absurd (cc)
set_at (a ∷ xs) zero x zero y h = inl (refl, cc)
set_at (a ∷ xs) zero x (suc j) y h = inr (λ e. omega (arith, e), h)
set_at (a ∷ xs) (suc i) x zero y h = inr (λ e. omega (arith, e), h)
set_at (a ∷ xs) (suc i) x (suc j) y h =
    elim (set_at xs i x j y h) [ inl p ↦ inl (ap suc p.0, p.1) | inr p ↦ inr (λ e. p.0 (omega (arith, e)), p.1) ]

-- the item that is replaced is there
pub set_there : {X : Type 0} (xs : List X) (i : ℕ) (x y : X) → slice_get xs i ≡ Some y → slice_get (slice_set xs i x) i ≡ Some x
set_there [] i x y at = absurd (cc)
set_there (z ∷ zs) zero x y at = refl
set_there (z ∷ zs) (suc i) x y at = set_there zs i x y at

-- and the others are as they were
pub set_other : {X : Type 0} (xs : List X) (i : ℕ) (x : X) (j : ℕ) (y : X) → j ≢ i → slice_get xs j ≡ Some y → slice_get (slice_set xs i x) j ≡ Some y
set_other [] i x j y other at = at
set_other (z ∷ zs) zero x zero y other at = absurd (other refl)
set_other (z ∷ zs) zero x (suc j) y other at = at
set_other (z ∷ zs) (suc i) x zero y other at = at
set_other (z ∷ zs) (suc i) x (suc j) y other at = set_other zs i x j y (λ e. other (ap suc e)) at

pub same_or_other : {X : Type 0} (xs : List X) (i : ℕ) (x : X) (j : ℕ) (y : X) → slice_get xs j ≡ Some y → (j ≡ i) ⊎ (slice_get (slice_set xs i x) j ≡ Some y)
same_or_other [] i x j y at = absurd (cc)
same_or_other (z ∷ zs) zero x zero y at = inl refl
same_or_other (z ∷ zs) zero x (suc j) y at = inr at
same_or_other (z ∷ zs) (suc i) x zero y at = inr at
same_or_other (z ∷ zs) (suc i) x (suc j) y at =
    elim (same_or_other zs i x j y at) [ inl e ↦ inl (ap suc e) | inr h ↦ inr h ]

pub set_length : {X : Type 0} (xs : List X) (i : ℕ) (x : X) → length (slice_set xs i x) ≡ length xs
set_length [] i x = refl
set_length (z ∷ zs) zero x = refl
set_length (z ∷ zs) (suc i) x = ap suc (set_length zs i x)

pub set_same : {X : Type 0} (xs : List X) (i : ℕ) (x : X) → slice_get xs i ≡ Some x → slice_set xs i x ≡ xs
set_same [] i x h = refl
set_same (y ∷ ys) zero x h = let e : y ≡ x = cc in ap (λ z. z ∷ ys) (sym e)
set_same (y ∷ ys) (suc i) x h = ap (λ zs. y ∷ zs) (set_same ys i x h)

-- beyond the end of one is beyond the end of another of its length
pub none_too : {X Y : Type 0} (xs : List X) (ys : List Y) (k : ℕ) → length xs ≡ length ys → length xs ≤ k → slice_get ys k ≡ None
none_too [] [] k same few = refl
none_too [] (y ∷ ys) k same few = absurd (omega (arith, same))
none_too (x ∷ xs) [] k same few = refl
none_too (x ∷ xs) (y ∷ ys) zero same few = absurd (omega (arith, few))
none_too (x ∷ xs) (y ∷ ys) (suc k) same few = none_too xs ys k (omega (arith, same)) (omega (arith, few))

-- what stands in one of two lists of one length stands in the other
pub both_there : {X Y : Type 0} (xs : List X) (ys : List Y) (k : ℕ) (y : Y) → length xs ≡ length ys → slice_get ys k ≡ Some y → (x : X) × (slice_get xs k ≡ Some x)
both_there [] [] k y same at = absurd (cc)
both_there [] (z ∷ ys) k y same at = absurd (omega (arith, same))
both_there (x ∷ xs) [] k y same at = absurd (omega (arith, same))
both_there (x ∷ xs) (z ∷ ys) zero y same at = (x, refl)
both_there (x ∷ xs) (z ∷ ys) (suc k) y same at = both_there xs ys k y (omega (arith, same)) at

-- it was there, or it is among those that were added
pub in_append : {X : Type 0} (xs ys : List X) (x : X) (k : ℕ) → slice_get (xs ++ ys) k ≡ Some x → (slice_get xs k ≡ Some x) ⊎ ((j : ℕ) × (k ≡ length xs + j) × (slice_get ys j ≡ Some x))
in_append [] ys x k at = inr (k, omega arith, at)
in_append (z ∷ zs) ys x zero at = inl at
in_append (z ∷ zs) ys x (suc k) at =
    elim (in_append zs ys x k at) [ inl h ↦ inl h | inr h ↦ let n = h.1 in inr (h.0, omega (arith, n), h.2) ]

pub in_one : {X : Type 0} (x y : X) (k : ℕ) → slice_get (y ∷ []) k ≡ Some x → (k ≡ 0) × (x ≡ y)
in_one x y zero at = (refl, cc)
in_one x y (suc k) at = absurd (cc)

pub in_take : {X : Type 0} (n : ℕ) (xs : List X) (j : ℕ) (x : X) → slice_get (take n xs) j ≡ Some x → slice_get xs j ≡ Some x
in_take zero xs j x h = absurd (cc)
in_take (suc n) [] j x h = absurd (cc)
in_take (suc n) (z ∷ zs) zero x h = h
in_take (suc n) (z ∷ zs) (suc j) x h = in_take n zs j x h

pub in_drop : {X : Type 0} (f : ℕ) (xs : List X) (j : ℕ) (x : X) → slice_get (drop f xs) j ≡ Some x → slice_get xs (f + j) ≡ Some x
in_drop zero xs j x h = let n : j ≡ 0 + j = omega arith in subst (λ (i : ℕ). slice_get xs i ≡ Some x) n h
in_drop (suc f) [] j x h = absurd (cc)
in_drop (suc f) (z ∷ zs) j x h =
    let n : suc (f + j) ≡ suc f + j = omega arith in
    subst (λ (i : ℕ). slice_get (z ∷ zs) i ≡ Some x) n (in_drop f zs j x h)

-- nothing stands in no list
pub nowhere : {X : Type 0} (x : X) (k : ℕ) → slice_get [] k ≡ Some x → ⊥
nowhere x k at = absurd (cc)

-- what is so of what stands at each place is so of all
pub all_from : {X : Type 0} (P : X → Type 0) (xs : List X) → ((at : ℕ) (x : X) → slice_get xs at ≡ Some x → P x) → All P xs
all_from P [] each = All-nil P
all_from P (y ∷ ys) each = All-cons P y ys (each 0 y refl) (all_from P ys (λ at x there. each (suc at) x there))

-- what stands between two places stands in what is taken of the list there
pub between_at : {X : Type 0} (from to : ℕ) (xs : List X) (j : ℕ) (x : X) → from + j < to → slice_get xs (from + j) ≡ Some x → slice_get (drop from (take to xs)) j ≡ Some x
between_at from zero xs j x below at = absurd (omega (arith, below))
between_at zero (suc to) [] j x below at = absurd (cc)
between_at (suc from) (suc to) [] j x below at = absurd (cc)
between_at zero (suc to) (z ∷ zs) zero x below at = at
between_at zero (suc to) (z ∷ zs) (suc j) x below at =
    let n : 0 + suc j ≡ suc (0 + j) = omega arith in
    between_at zero to zs j x (omega (arith, below)) (subst (λ (i : ℕ). slice_get (z ∷ zs) i ≡ Some x) n at)
between_at (suc from) (suc to) (z ∷ zs) j x below at =
    let n : suc from + j ≡ suc (from + j) = omega arith in
    between_at from to zs j x (omega (arith, below)) (subst (λ (i : ℕ). slice_get (z ∷ zs) i ≡ Some x) n at)

-- what is so of all is so of what stands at a place
pub all_at : {X : Type 0} (P : X → Type 0) (xs : List X) (at : ℕ) (x : X) → All P xs → slice_get xs at ≡ Some x → P x
all_at P [] at x all there = absurd (cc)
all_at P (y ∷ ys) zero x all there = let is : y ≡ x = cc in subst P is (All-head P y ys all)
all_at P (y ∷ ys) (suc at) x all there = all_at P ys at x (All-tail P y ys all) there

-- something stands at each place below the length
pub there_below : {X : Type 0} (xs : List X) (at : ℕ) → at < length xs → (x : X) × (slice_get xs at ≡ Some x)
there_below [] at below = absurd (omega (arith, below))
there_below (y ∷ ys) zero below = (y, refl)
there_below (y ∷ ys) (suc at) below = there_below ys at (omega (arith, below))

-- what stands behind a place stands in a front of what is behind it
pub front_at : {X : Type 0} (count from : ℕ) (xs : List X) (j : ℕ) (x : X) → j < count → slice_get xs (from + j) ≡ Some x → slice_get (take count (drop from xs)) j ≡ Some x
front_at zero from xs j x below at = absurd (omega (arith, below))
front_at (suc count) zero [] j x below at = absurd (cc)
front_at (suc count) (suc from) [] j x below at = absurd (cc)
front_at (suc count) zero (z ∷ zs) zero x below at = at
front_at (suc count) zero (z ∷ zs) (suc j) x below at =
    let n : 0 + suc j ≡ suc (0 + j) = omega arith in
    front_at count zero zs j x (omega (arith, below)) (subst (λ (i : ℕ). slice_get (z ∷ zs) i ≡ Some x) n at)
front_at (suc count) (suc from) (z ∷ zs) j x below at =
    let n : suc from + j ≡ suc (from + j) = omega arith in
    front_at (suc count) from zs j x below (subst (λ (i : ℕ). slice_get (z ∷ zs) i ≡ Some x) n at)
