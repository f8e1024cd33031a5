-- Which rows a DELETE leaves.
use Rattle.std.proofs.Common.{◌≡◌, inl, inr, ℤ, List, [], ◌∷◌, map, Bool, true, false, not, ◌||◌, cond, refl, sym, ap, subst, ◌∙◌}
use Rattle.std.specs.Ordering.{is_eq}
use Rattle.std.specs.declared.cmp.Ordering.TheVariants.{Equal}
use Rattle.std.specs.List.{filter, list_any, AllByRecursion}
use Rattle.std.specs.List.Sorted.{IsPermutation}
use Rattle.std.proofs.lemmas.List.Sorted.{list_any-IsPermutation}
use Rattle.std.proofs.lemmas.Bool.{cases_Bool}
use Rattle.std.proofs.lemmas.Cmp.{tied_itself}
use Rattle.cs_order.specs.Facts.{equal_from}
use Rattle.sqlite_value.specs.Order.{Row, column, value_cmp}
use Rattle.sqlite_value.proofs.OrderLemmas.{value_cmp_total}
use Rattle.sqlite_trees.specs.Tree.{rowid, has_rowid, without_rowid}
use Rattle.sqlite_trees.specs.View.{is_int}
use Rattle.sqlite_rules.specs.Edit.{id_in, without_all}
use Rattle.sqlite_rules.specs.Calls.{ids_of}
use Rattle.sqlite_rules.specs.Lists.{Has}
use Rattle.sqlite_rules.proofs.ListLemmas.{all_has, all_from, some_has, some_from, has_filtered, has_kept}
use Rattle.sqlite_rules.proofs.TableLemmas.{int_is}
use Rattle.cs_sql.specs.statements.Tables.{Apart, same_id}
use Rattle.cs_sql.proofs.StatementsLemmas.Apart.{apart_same, id_symm}

-- whether one of the rowids is the row's
abbrev pub has_one_of : List ℤ → Row → Bool
has_one_of ids r = list_any (λ id. has_rowid id r) ids

filter_all : {A : Type 0} (xs : List A) → filter (λ _. true) xs ≡ xs
filter_all [] = refl
filter_all (x ∷ xs) = ap (λ ys. x ∷ ys) (filter_all xs)

filter_twice : {A : Type 0} (p q : A → Bool) (xs : List A) → filter (λ x. not (p x)) (filter (λ x. not (q x)) xs) ≡ filter (λ x. not (q x || p x)) xs
filter_twice p q [] = refl
filter_twice p q (x ∷ xs) = elim (cases_Bool (q x)) [
  | inl out ↦ rw out (filter_twice p q xs)
  | inr kept ↦ rw kept (ap (λ ys. cond (not (p x)) (x ∷ ys) ys) (filter_twice p q xs))
]

pub filter_alike : {A : Type 0} (p q : A → Bool) (xs : List A) → AllByRecursion (λ x. p x ≡ q x) xs → filter (λ x. not (p x)) xs ≡ filter (λ x. not (q x)) xs
filter_alike p q [] all = refl
filter_alike p q (x ∷ xs) all = rw all.0 (ap (λ ys. cond (not (q x)) (x ∷ ys) ys) (filter_alike p q xs all.1))

without_is : (ids : List ℤ) (es : List Row) → without_all es ids ≡ filter (λ r. not (has_one_of ids r)) es
without_is [] es = sym (filter_all es)
without_is (id ∷ ids) es = without_is ids (without_rowid id es) ∙ filter_twice (has_one_of ids) (has_rowid id) es

-- ---- the rows whose rowids a query showed

not_true : (b : Bool) → (b ≡ true → ⊥) → b ≡ false
not_true true h = absurd (h refl)
not_true false h = refl

any_map : {A B : Type 0} (p : B → Bool) (f : A → B) (xs : List A) → list_any p (map f xs) ≡ list_any (λ x. p (f x)) xs
any_map p f [] = refl
any_map p f (x ∷ xs) = ap (λ b. p (f x) || b) (any_map p f xs)

-- a row that shows the rowid alone
abbrev pub shown_id : Row → Row
shown_id r = column r 0 ∷ []

module _ (p : Row → Bool) (es : List Row) (apart : Apart same_id es) (keyed : AllByRecursion (λ r. is_int (rowid r) ≡ true) es) where
  own : (r : Row) → is_int (rowid r) ≡ true → has_rowid (id_in (rowid r)) r ≡ true
  own r whole = rw (← int_is (rowid r) whole) (ap is_eq (tied_itself value_cmp_total (rowid r)))

  marks : (r : Row) → Has es r → list_any (λ x. has_rowid (id_in (rowid x)) r) (filter p es) ≡ p r
  marks r h = elim (cases_Bool (p r)) [
    | inl passes ↦ some_from (λ x. has_rowid (id_in (rowid x)) r) (filter p es) r (has_kept p es r h passes) (own r (all_has _ es r keyed h)) ∙ sym passes
    | inr fails ↦ not_true _ (λ marked.
        let x = some_has (λ x. has_rowid (id_in (rowid x)) r) (filter p es) marked in
        let was = has_filtered p es x.0 x.1 in
        let tie : value_cmp (rowid r) (rowid x.0) ≡ Equal = subst (λ v. value_cmp (rowid r) v ≡ Equal) (sym (int_is (rowid x.0) (all_has _ es x.0 keyed was.0))) (equal_from _ x.2) in
        let same : r ≡ x.0 = apart_same same_id id_symm es r x.0 apart h was.0 (ap is_eq tie) in
        let passes = subst (λ y. p y ≡ true) (sym same) was.1 in cc) ∙ sym fails
  ]

  pub removed_is : (rows : List Row) → IsPermutation (map shown_id (filter p es)) rows → without_all es (ids_of rows) ≡ filter (λ r. not (p r)) es
  removed_is rows same = without_is (ids_of rows) es ∙ filter_alike (has_one_of (ids_of rows)) p es (all_from _ es (λ r h.
      any_map (λ id. has_rowid id r) (λ x. id_in (rowid x)) rows
      ∙ sym (list_any-IsPermutation (λ x. has_rowid (id_in (rowid x)) r) (map shown_id (filter p es)) rows same)
      ∙ any_map (λ x. has_rowid (id_in (rowid x)) r) shown_id (filter p es) ∙ marks r h))
