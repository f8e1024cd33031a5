-- Rows of which no two tie.
use Rattle.std.proofs.Common.{◌≡◌, inl, inr, List, [], ◌∷◌, map, Bool, true, false, ◌||◌, Some, None, refl, sym, ap, subst, ◌∙◌}
use Rattle.std.specs.declared.cmp.Ordering.{Ordering}
use Rattle.std.specs.declared.cmp.Ordering.TheVariants.{Less, Equal, Greater}
use Rattle.std.specs.Ordering.{is_eq, match_ordering, eq_by_cmp}
use Rattle.std.specs.Cmp.{IsTotalOrder, eq_by_cmp_equiv}
use Rattle.std.specs.List.{filter, AllByRecursion}
use Rattle.std.specs.FinMap.{find, IsAntisymmetric}
use Rattle.std.proofs.lemmas.Bool.{cases_Bool}
use Rattle.cs_order.specs.Facts.{equal_from}
use Rattle.sqlite_value.specs.Order.{Row, value_cmp}
use Rattle.sqlite_value.proofs.OrderLemmas.{value_cmp_total}
use Rattle.sqlite_trees.specs.Tree.{rowid, put_row}
use Rattle.sqlite_trees.proofs.TreeLemmas.{all-put_row}
use Rattle.sqlite_rules.specs.Edit.{is_taken}
use Rattle.sqlite_rules.specs.Lists.{Has}
use Rattle.sqlite_rules.proofs.ListLemmas.{all_has, all_from, has_filtered}
use Rattle.cs_sql.specs.statements.Tables.{Apart, IsMapped, same_id, same_key}

pub both_or : (a b : Bool) → (a || b) ≡ false → (a ≡ false) × (b ≡ false)
both_or true b h = absurd cc
both_or false b h = (refl, h)

pub all_filter : {A : Type 0} (P : A → Type 0) (p : A → Bool) (es : List A) → AllByRecursion P es → AllByRecursion P (filter p es)
all_filter P p es all = all_from P (filter p es) (λ r h. all_has P es r all (has_filtered p es r h).0)

pub apart_filter : {A : Type 0} (tie : A → A → Bool) (p : A → Bool) (es : List A) → Apart tie es → Apart tie (filter p es)
apart_filter tie p [] a = tt
apart_filter tie p (r ∷ es) a = elim (cases_Bool (p r)) [
  | inl stays ↦ rw stays (all_filter (λ s. tie r s ≡ false) p es a.0, apart_filter tie p es a.1)
  | inr goes ↦ rw goes (apart_filter tie p es a.1)
]

pub apart_put : (tie : Row → Row → Bool) → ((a b : Row) → tie a b ≡ tie b a) → (new : Row) (es : List Row) → is_taken es new ≡ false → AllByRecursion (λ r. tie new r ≡ false) es
    → Apart tie es → Apart tie (put_row new es)
apart_put tie symm new [] free none a = (tt, tt)
apart_put tie symm new (r ∷ es) free none a =
    let parts = both_or (is_eq (value_cmp (rowid r) (rowid new))) (is_taken es new) free in
    let later : Apart tie (r ∷ put_row new es) = (all-put_row (λ s. tie r s ≡ false) new es (symm r new ∙ none.0) a.0, apart_put tie symm new es parts.1 none.1 a.1) in
    elim (value_cmp (rowid r) (rowid new)) as (λ o. is_eq o ≡ false → Apart tie (match_ordering o (r ∷ put_row new es) (new ∷ es) (new ∷ r ∷ es))) [
      | Less ↦ λ _. later
      | Equal ↦ λ e. absurd cc
      | Greater ↦ λ _. (none, a)
    ] parts.0

-- two of them that tie are one
pub apart_same : {A : Type 0} (tie : A → A → Bool) → ((a b : A) → tie a b ≡ tie b a) → (es : List A) (x y : A) → Apart tie es → Has es x → Has es y → tie x y ≡ true → x ≡ y
apart_same tie symm [] x y a hx hy e = absurd hx
apart_same tie symm (r ∷ es) x y a (inl sx) (inl sy) e = sx ∙ sym sy
apart_same tie symm (r ∷ es) x y a (inl sx) (inr hy) e = absurd (let n = all_has _ es y a.0 hy in let t = subst (λ z. tie z y ≡ true) sx e in cc)
apart_same tie symm (r ∷ es) x y a (inr hx) (inl sy) e = absurd (let n = symm x r ∙ all_has _ es x a.0 hx in let t = subst (λ z. tie x z ≡ true) sy e in cc)
apart_same tie symm (r ∷ es) x y a (inr hx) (inr hy) e = apart_same tie symm es x y a.1 hx hy e

pub id_symm : (a b : Row) → same_id a b ≡ same_id b a
id_symm a b = (eq_by_cmp_equiv value_cmp_total).symm (rowid a) (rowid b)

free_ids : (new : Row) (es : List Row) → is_taken es new ≡ false → AllByRecursion (λ r. same_id new r ≡ false) es
free_ids new [] free = tt
free_ids new (r ∷ es) free = let parts = both_or (is_eq (value_cmp (rowid r) (rowid new))) (is_taken es new) free in (id_symm new r ∙ parts.0, free_ids new es parts.1)

module _ {K X : Type 0} {R : K → K → Ordering} (total : IsTotalOrder R) (exact : IsAntisymmetric R) (entry : Row → K × X) (Is : Row → Type 0) where
  key_symm : (a b : Row) → same_key R entry a b ≡ same_key R entry b a
  key_symm a b = (eq_by_cmp_equiv total).symm (entry a).0 (entry b).0

  pub mapped_without : (p : Row → Bool) (es : List Row) → IsMapped R entry Is es → IsMapped R entry Is (filter p es)
  mapped_without p es m = record { typed = all_filter Is p es m.typed; ids_apart = apart_filter same_id p es m.ids_apart; keys_apart = apart_filter (same_key R entry) p es m.keys_apart }

  pub mapped_with : (new : Row) (es : List Row) → is_taken es new ≡ false → AllByRecursion (λ r. eq_by_cmp R (entry new).0 (entry r).0 ≡ false) es → Is new → IsMapped R entry Is es → IsMapped R entry Is (put_row new es)
  mapped_with new es free none is m = record {
    typed = all-put_row Is new es is m.typed;
    ids_apart = apart_put same_id id_symm new es free (free_ids new es free) m.ids_apart;
    keys_apart = apart_put (same_key R entry) key_symm new es free none m.keys_apart;
  }

  -- no row stands at a key at which the map has none
  pub none_at : (k : K) (es : List Row) → find R k (map entry es) ≡ None → AllByRecursion (λ r. eq_by_cmp R k (entry r).0 ≡ false) es
  none_at k [] e = tt
  none_at k (r ∷ es) e = elim (cases_Bool (eq_by_cmp R k (entry r).0)) [
    | inl here ↦ absurd (let f = rw here at e in cc)
    | inr other ↦ (other, none_at k es (rw other at e))
  ]

  pub find_none : (k : K) (es : List Row) → AllByRecursion (λ r. eq_by_cmp R k (entry r).0 ≡ false) es → find R k (map entry es) ≡ None
  find_none k [] all = refl
  find_none k (r ∷ es) all = rw all.0 (find_none k es all.1)

  -- ---- the row at a key

  pub data IsOne (k : K) (es found : List Row) : Type 0 where
    none : found ≡ [] → find R k (map entry es) ≡ None → IsOne k es found
    one : (r : Row) → Is r → found ≡ r ∷ [] → find R k (map entry es) ≡ Some (entry r).1 → IsOne k es found

  no_other : (p : Row → Bool) (k : K) (r : Row) (es : List Row) → eq_by_cmp R k (entry r).0 ≡ true → AllByRecursion (λ s. p s ≡ eq_by_cmp R k (entry s).0) es
      → AllByRecursion (λ s. same_key R entry r s ≡ false) es → filter p es ≡ []
  no_other p k r [] tie all apart = refl
  no_other p k r (s ∷ es) tie all apart =
      let same : k ≡ (entry r).0 = exact k (entry r).0 (equal_from _ tie) in
      let fails : p s ≡ false = all.0 ∙ subst (λ x. eq_by_cmp R x (entry s).0 ≡ false) (sym same) apart.0 in
      rw fails (no_other p k r es tie all.1 apart.1)

  pub finds_one : (p : Row → Bool) (k : K) (es : List Row) → AllByRecursion (λ s. p s ≡ eq_by_cmp R k (entry s).0) es → AllByRecursion Is es → Apart (same_key R entry) es → IsOne k es (filter p es)
  finds_one p k [] all is a = none refl refl
  finds_one p k (r ∷ es) all is a = elim (cases_Bool (eq_by_cmp R k (entry r).0)) [
    | inl here ↦ one r is.0 (rw (all.0 ∙ here) (ap (λ xs. r ∷ xs) (no_other p k r es here all.1 a.0))) (rw here refl)
    | inr other ↦ elim (finds_one p k es all.1 is.1 a.1) [
      | none empty is_none ↦ none (rw (all.0 ∙ other) empty) (rw other is_none)
      | one s it single found ↦ one s it (rw (all.0 ∙ other) single) (rw other found)
    ]
  ]
