-- Lists with the same elements, apart and in order.
use Rattle.std.proofs.Common.{◌≡◌, inl, inr, ℕ, ◌+◌, ◌<◌, ◌≤◌, pos, List, [], ◌∷◌, ◌++◌, map, Bool, true, false, ◌&&◌, cond, Some, None, T, refl, sym, ap, subst, ◌∙◌, arith}
use Rattle.std.specs.declared.cmp.Ordering.{Ordering}
use Rattle.std.specs.declared.cmp.Ordering.TheVariants.{Less, Equal, Greater}
use Rattle.std.specs.Ordering.{is_eq, is_lt, eq_by_cmp, int_cmp, ordering_reverse}
use Rattle.std.specs.Cmp.{IsTotalOrder, eq_by_cmp_equiv}
use Rattle.std.specs.List.{AllByRecursion, list_any, sum_by}
use Rattle.std.specs.List.Sorted.{IsPermutation}
use Rattle.std.specs.FinMap.{find, is_sorted, IsAntisymmetric}
use Rattle.std.specs.FinMap.Entries.{below_all}
use Rattle.std.proofs.Math.Dec.{ltb}
use borrow.Author.Tests.{ltb-true, ltb-false}
use Rattle.std.proofs.lemmas.Bool.{cases_Bool}
use Rattle.std.proofs.lemmas.List.Sums.{sum_by-cons}
use Rattle.std.proofs.lemmas.List.Sorted.{IsPermutation-sym, Contains-permutation, sum_by-IsPermutation, list_any-IsPermutation}
use Rattle.cs_order.specs.Facts.{equal_from}
use Rattle.sqlite_rules.specs.Lists.{Has}
use Rattle.sqlite_rules.proofs.ListLemmas.{all_has, all_from, some_has, has_contained, contains_had}
use Rattle.sqlite.specs.Order.{Row, column}
use Rattle.sqlite_value.specs.Order.{value_cmp}
use Rattle.sqlite_value.proofs.OrderLemmas.{value_cmp_total}
use Rattle.cs_sql.specs.statements.Tables.{Apart}
use Rattle.cs_sql.specs.statements.Found.{Rise}

-- ---- the same elements

pub has_permutation : {A : Type 0} (xs ys : List A) (x : A) → IsPermutation xs ys → Has ys x → Has xs x
has_permutation xs ys x same h = has_contained xs x (Contains-permutation ys xs x (IsPermutation-sym xs ys same) (contains_had ys x h))

pub all_permutation : {A : Type 0} (P : A → Type 0) (xs ys : List A) → IsPermutation xs ys → AllByRecursion P xs → AllByRecursion P ys
all_permutation P xs ys same all = all_from P ys (λ y h. all_has P xs y all (has_permutation xs ys y same h))

zero_mark : (b : Bool) (n : ℕ) → cond b 1 0 + n ≡ 0 → b ≡ false
zero_mark true n e = absurd (omega (arith, e))
zero_mark false n e = refl

module _ {A : Type 0} (tie : A → A → Bool) (symm : (a b : A) → tie a b ≡ tie b a) (self : (a : A) → tie a a ≡ true) where
  abbrev marks : A → A → ℕ
  marks x y = cond (tie x y) 1 0

  none_marked : (x : A) (xs : List A) → AllByRecursion (λ y. tie x y ≡ false) xs → sum_by (marks x) xs ≡ 0
  none_marked x [] all = refl
  none_marked x (y ∷ ys) all =
      let rest = none_marked x ys all.1 in
      let here : marks x y ≡ 0 = rw all.0 refl in
      sum_by-cons (marks x) y ys ∙ omega (arith, rest, here)

  marked_none : (x : A) (xs : List A) → sum_by (marks x) xs ≡ 0 → AllByRecursion (λ y. tie x y ≡ false) xs
  marked_none x [] e = tt
  marked_none x (y ∷ ys) e =
      let s : marks x y + sum_by (marks x) ys ≡ 0 = sym (sum_by-cons (marks x) y ys) ∙ e in
      (zero_mark (tie x y) (sum_by (marks x) ys) s, marked_none x ys (omega (arith, s)))

  once : (xs : List A) → Apart tie xs → (x : A) → Has xs x → sum_by (marks x) xs ≤ 1
  once [] a x h = absurd h
  once (y ∷ ys) a x (inl same) =
      let s = sum_by-cons (marks y) y ys in
      let rest = none_marked y ys a.0 in
      let here : marks y y ≡ 1 = rw (self y) refl in
      subst (λ z. sum_by (marks z) (y ∷ ys) ≤ 1) (sym same) (omega (arith, s, rest, here))
  once (y ∷ ys) a x (inr later) =
      let s = sum_by-cons (marks x) y ys in
      let rest = once ys a.1 x later in
      let here : marks x y ≡ 0 = rw (symm x y ∙ all_has _ ys x a.0 later) refl in
      omega (arith, s, rest, here)

  apart_from : (xs : List A) → ((x : A) → Has xs x → sum_by (marks x) xs ≤ 1) → Apart tie xs
  apart_from [] each = tt
  apart_from (y ∷ ys) each =
      let s = sum_by-cons (marks y) y ys in
      let here : marks y y ≡ 1 = rw (self y) refl in
      let first = each y (inl refl) in (
        marked_none y ys (omega (arith, s, here, first)),
        apart_from ys (λ x later. let more = sum_by-cons (marks x) y ys in let all = each x (inr later) in omega (arith, more, all)),
      )

  pub apart_permutation : (xs ys : List A) → IsPermutation xs ys → Apart tie xs → Apart tie ys
  apart_permutation xs ys same a = apart_from ys (λ x h. let e = sum_by-IsPermutation (marks x) xs ys same in let n = once xs a x (has_permutation xs ys x same h) in omega (arith, e, n))

pub all_map : {A B : Type 0} (P : B → Type 0) (f : A → B) (xs : List A) → AllByRecursion (λ x. P (f x)) xs → AllByRecursion P (map f xs)
all_map P f [] all = tt
all_map P f (x ∷ xs) all = (all.0, all_map P f xs all.1)

pub all_unmap : {A B : Type 0} (P : B → Type 0) (f : A → B) (xs : List A) → AllByRecursion P (map f xs) → AllByRecursion (λ x. P (f x)) xs
all_unmap P f [] all = tt
all_unmap P f (x ∷ xs) all = (all.0, all_unmap P f xs all.1)

pub apart_map : {A B : Type 0} (tie : B → B → Bool) (f : A → B) (xs : List A) → Apart (λ a b. tie (f a) (f b)) xs → Apart tie (map f xs)
apart_map tie f [] a = tt
apart_map tie f (x ∷ xs) a = (all_map (λ y. tie (f x) y ≡ false) f xs a.0, apart_map tie f xs a.1)

pub apart_unmap : {A B : Type 0} (tie : B → B → Bool) (f : A → B) (xs : List A) → Apart tie (map f xs) → Apart (λ a b. tie (f a) (f b)) xs
apart_unmap tie f [] a = tt
apart_unmap tie f (x ∷ xs) a = (all_unmap (λ y. tie (f x) y ≡ false) f xs a.0, apart_unmap tie f xs a.1)

-- ---- pairs of a key and a value

both : (a b : Bool) → T a → T b → T (a && b)
both true b p q = q
both false b p q = p

first : (a b : Bool) → T (a && b) → T a
first true b p = tt
first false b p = p

second : (a b : Bool) → T (a && b) → T b
second true b p = p
second false b p = absurd p

pub less_of : (o : Ordering) → T (is_lt o) → o ≡ Less
less_of Less p = refl
less_of Equal p = absurd p
less_of Greater p = absurd p

pub strictly : {K : Type 0} {R : K → K → Ordering} → IsTotalOrder R → (x y : K) → is_lt (R y x) ≡ false → eq_by_cmp R x y ≡ false → T (is_lt (R x y))
strictly {R = R} total x y fall apart = elim (R x y) as (λ o. R x y ≡ o → is_eq o ≡ false → T (is_lt o)) [
  | Less ↦ λ t h. tt
  | Equal ↦ λ t h. absurd cc
  | Greater ↦ λ t h. let turned : R y x ≡ Less = total.antisymm y x ∙ ap ordering_reverse t in let no : true ≡ false = sym (ap is_lt turned) ∙ fall in absurd cc
] refl apart

module _ {K X : Type 0} {R : K → K → Ordering} (total : IsTotalOrder R) (exact : IsAntisymmetric R) where
  abbrev pub tied : K × X → K × X → Bool
  tied a b = eq_by_cmp R a.0 b.0

  tied_symm : (a b : K × X) → tied a b ≡ tied b a
  tied_symm a b = (eq_by_cmp_equiv total).symm a.0 b.0

  tied_self : (a : K × X) → tied a a ≡ true
  tied_self a = (eq_by_cmp_equiv total).refl a.0

  pub find_had : (es : List (K × X)) → Apart tied es → (q : K) (e : K × X) → Has es e → eq_by_cmp R q e.0 ≡ true → find R q es ≡ Some e.1
  find_had [] a q e h t = absurd h
  find_had (f ∷ es) a q e (inl same) t =
      let here : eq_by_cmp R q f.0 ≡ true = subst (λ (z : K × X). eq_by_cmp R q z.0 ≡ true) same t in rw here (ap (λ (z : K × X). Some z.1) (sym same))
  find_had (f ∷ es) a q e (inr later) t = elim (cases_Bool (eq_by_cmp R q f.0)) [
    | inl here ↦ absurd (let is : q ≡ f.0 = exact q f.0 (equal_from _ here) in let n = all_has _ es e a.0 later in let y = subst (λ z. eq_by_cmp R z e.0 ≡ true) is t in cc)
    | inr other ↦ rw other (find_had es a.1 q e later t)
  ]

  find_missing : (es : List (K × X)) (q : K) → list_any (λ (e : K × X). eq_by_cmp R q e.0) es ≡ false → find R q es ≡ None
  find_missing [] q e = refl
  find_missing (f ∷ es) q e = elim (cases_Bool (eq_by_cmp R q f.0)) [
    | inl here ↦ absurd (let y = rw here at e in cc)
    | inr other ↦ rw other (find_missing es q (rw other at e))
  ]

  -- where keys are apart, what is found doesn't depend on the order
  pub find_permutation : (es fs : List (K × X)) → IsPermutation es fs → Apart tied es → (q : K) → find R q fs ≡ find R q es
  find_permutation es fs same a q = elim (cases_Bool (list_any (λ (e : K × X). eq_by_cmp R q e.0) fs)) [
    | inl some ↦ let e = some_has _ fs some in
        find_had fs (apart_permutation tied tied_symm tied_self es fs same a) q e.0 e.1 e.2 ∙ sym (find_had es a q e.0 (has_permutation es fs e.0 same e.1) e.2)
    | inr none ↦ find_missing fs q none ∙ sym (find_missing es q (list_any-IsPermutation (λ (e : K × X). eq_by_cmp R q e.0) es fs same ∙ none))
  ]

  -- no key is below the one before it
  abbrev pub DontFall : List (K × X) → Type 0
  DontFall [] = Unit {0}
  DontFall (x ∷ []) = Unit {0}
  DontFall (x ∷ y ∷ more) = (is_lt (R y.0 x.0) ≡ false) × DontFall (y ∷ more)

  below_more : (x y : K) (es : List (K × X)) → R x y ≡ Less → T (below_all R y es) → T (below_all R x es)
  below_more x y [] l h = tt
  below_more x y (e ∷ es) l h =
      both (is_lt (R x e.0)) (below_all R x es) (subst (λ o. T (is_lt o)) (sym (total.trans x y e.0 l (less_of (R y e.0) (first (is_lt (R y e.0)) (below_all R y es) h)))) tt) (below_more x y es l (second (is_lt (R y e.0)) (below_all R y es) h))

  -- where no two keys are equal either, they rise
  pub rises : (es : List (K × X)) → DontFall es → Apart tied es → T (is_sorted R es)
  rises [] f a = tt
  rises (x ∷ []) f a = tt
  rises (x ∷ y ∷ more) f a =
      let rest : T (is_sorted R (y ∷ more)) = rises (y ∷ more) f.1 a.1 in
      let here : T (is_lt (R x.0 y.0)) = strictly total x.0 y.0 f.0 a.0.0 in
      both (below_all R x.0 (y ∷ more)) (is_sorted R (y ∷ more))
      (both (is_lt (R x.0 y.0)) (below_all R x.0 more) here (below_more x.0 y.0 more (less_of _ here) (first _ _ rest))) rest

  -- each key is below those after it
  abbrev pub Ascend : List (K × X) → Type 0
  Ascend [] = Unit {0}
  Ascend (x ∷ more) = AllByRecursion (λ (y : K × X). R x.0 y.0 ≡ Less) more × Ascend more

  below_each : (x : K) (es : List (K × X)) → T (below_all R x es) → AllByRecursion (λ (y : K × X). R x y.0 ≡ Less) es
  below_each x [] h = tt
  below_each x (e ∷ es) h = (less_of (R x e.0) (first (is_lt (R x e.0)) (below_all R x es) h), below_each x es (second (is_lt (R x e.0)) (below_all R x es) h))

  pub ascends : (es : List (K × X)) → T (is_sorted R es) → Ascend es
  ascends [] h = tt
  ascends (e ∷ es) h = (below_each e.0 es (first (below_all R e.0 es) (is_sorted R es) h), ascends es (second (below_all R e.0 es) (is_sorted R es) h))

-- ---- numbers

pub pos_less : (a b : ℕ) → int_cmp (pos a) (pos b) ≡ Less → a < b
pos_less a b e = two (ltb a b) (ltb b a) refl e
  where
    two : (l g : Bool) → ltb a b ≡ l → cond l Less (cond g Greater Equal) ≡ Less → a < b
    two true g p e = ltb-true a b p
    two false true p e = absurd cc
    two false false p e = absurd cc

pub pos_at_least : (a b : ℕ) → is_lt (int_cmp (pos a) (pos b)) ≡ false → b ≤ a
pos_at_least a b e = two (ltb a b) refl e
  where
    two : (l : Bool) → ltb a b ≡ l → is_lt (cond l Less (cond (ltb b a) Greater Equal)) ≡ false → b ≤ a
    two true p e = absurd cc
    two false p e = ltb-false a b p

-- ---- rows that rise

follow_push : (p : Row) (es : List Row) (v w : Row) → value_cmp (column v 0) (column w 0) ≡ Less → AllByRecursion (λ y. value_cmp (column p 0) (column y 0) ≡ Less) (es ++ v ∷ [])
    → AllByRecursion (λ y. value_cmp (column p 0) (column y 0) ≡ Less) (es ++ v ∷ w ∷ [])
follow_push p [] v w l h = (h.0, (value_cmp_total.trans (column p 0) (column v 0) (column w 0) h.0 l, tt))
follow_push p (e ∷ es) v w l h = (h.0, follow_push p es v w l h.1)

pub rise_push : (es : List Row) (v w : Row) → value_cmp (column v 0) (column w 0) ≡ Less → Rise (es ++ v ∷ []) → Rise (es ++ v ∷ w ∷ [])
rise_push [] v w l h = ((l, tt), (tt, tt))
rise_push (e ∷ es) v w l h = (follow_push e es v w l h.0, rise_push es v w l h.1)

all_front : (P : Row → Type 0) (es : List Row) (row : Row) → AllByRecursion P (es ++ row ∷ []) → AllByRecursion P es
all_front P [] row all = tt
all_front P (e ∷ es) row all = (all.0, all_front P es row all.1)

pub rise_front : (es : List Row) (row : Row) → Rise (es ++ row ∷ []) → Rise es
rise_front [] row rise = tt
rise_front (e ∷ es) row rise = (all_front (λ other. value_cmp (column e 0) (column other 0) ≡ Less) es row rise.0, rise_front es row rise.1)

pub rise_pair : (es : List Row) (v w : Row) → Rise (es ++ v ∷ w ∷ []) → value_cmp (column v 0) (column w 0) ≡ Less
rise_pair [] v w rise = rise.0.0
rise_pair (e ∷ es) v w rise = rise_pair es v w rise.1

-- no row is below the one before it
abbrev pub Level : List Row → Type 0
Level [] = Unit {0}
Level (x ∷ []) = Unit {0}
Level (x ∷ y ∷ more) = (is_lt (value_cmp (column y 0) (column x 0)) ≡ false) × Level (y ∷ more)

less_more : (x y : Row) (rows : List Row) → value_cmp (column x 0) (column y 0) ≡ Less → AllByRecursion (λ other. value_cmp (column y 0) (column other 0) ≡ Less) rows → AllByRecursion (λ other. value_cmp (column x 0) (column other 0) ≡ Less) rows
less_more x y [] l all = tt
less_more x y (z ∷ rows) l all = (value_cmp_total.trans (column x 0) (column y 0) (column z 0) l all.0, less_more x y rows l all.1)

-- where no two are equal either, they rise
pub rise_level : (rows : List Row) → Level rows → Apart (λ (a b : Row). is_eq (value_cmp (column a 0) (column b 0))) rows → Rise rows
rise_level [] l a = tt
rise_level (x ∷ []) l a = (tt, tt)
rise_level (x ∷ y ∷ more) l a =
    let rest = rise_level (y ∷ more) l.1 a.1 in
    let here : value_cmp (column x 0) (column y 0) ≡ Less = less_of _ (strictly value_cmp_total (column x 0) (column y 0) l.0 a.0.0) in
    ((here, less_more x y more here rest.0), rest)
