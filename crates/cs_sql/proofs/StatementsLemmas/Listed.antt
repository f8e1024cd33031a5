-- What the lists of a table show.
use Rattle.std.proofs.Common.{◌≡◌, inl, inr, ℕ, suc, ◌+◌, ℤ, List, [], ◌∷◌, map, Bool, false, refl, sym, ap, subst, ◌∙◌, arith, get_or}
use Rattle.std.specs.declared.cmp.Ordering.{Ordering}
use Rattle.std.specs.declared.cmp.Ordering.TheVariants.{Less, Equal, Greater}
use Rattle.std.specs.Ordering.{is_eq, is_lt, eq_by_cmp, int_cmp, ordering_then}
use Rattle.std.specs.Cmp.{eq_by_cmp_equiv}
use Rattle.std.specs.List.{AllByRecursion, filter}
use Rattle.std.specs.List.Sorted.{IsPermutation, IsSorted}
use Rattle.std.specs.FinMap.{find, get, from_entries, get-from_entries}
use Rattle.std.proofs.lemmas.Bool.{cases_Bool}
use Rattle.std.proofs.lemmas.Cmp.{nat_list_cmp_total, int_cmp_total}
use Rattle.std.proofs.lemmas.Map.Lookups.{exact_bytes, exact_signed}
use Rattle.std.proofs.lemmas.List.Sorted.{IsPermutation-map}
use Rattle.cs_order.specs.Facts.{equal_from}
use Rattle.sqlite.specs.Order.{Row, column}
use Rattle.sqlite.specs.Query.{Output, output_cmp}
use Rattle.sqlite.specs.State.{State, Shown}
use Rattle.sqlite.proofs.Callers.{reads_as}
use Rattle.sqlite_rules.specs.Edit.{id_in}
use Rattle.sqlite_rules.proofs.ListLemmas.{all_has, all_from, has_filtered}
use Rattle.sqlite_value.specs.declared.value.Value.TheVariants.{Null, Int, Blob}
use Rattle.sqlite_value.specs.Order.{bytes, value_cmp}
use Rattle.sqlite_value.proofs.OrderLemmas.{value_cmp-Blob}
use Rattle.cs_order.specs.Order.{by_bytes}
use Rattle.cs_store.specs.Contents.{Bodies, IsListing, place_cmp}
use Rattle.cs_sql.specs.schema.Schemas.{store_schema}
use Rattle.cs_sql.specs.statements.Tables.{list_text, IsRow, IsMapped, IsKept, Apart, same_key, row_pair, contents_in}
use Rattle.cs_sql.specs.statements.Steps.{pair_read, placed}
use Rattle.cs_sql.proofs.StatementsLemmas.Meanings.{in_table, pair_terms, pairs_in, rising_by, tree_of, list_is, list_plain}
use Rattle.cs_sql.proofs.StatementsLemmas.Spaces.{mapped_at, placed_is, uncovered}
use Rattle.cs_sql.specs.declared.statements.spaces.Space.{Space}
use Rattle.cs_sql.proofs.StatementsLemmas.Answers.{place_total, passes_on, table_passes, given, ordered_is}
use Rattle.cs_sql.proofs.StatementsLemmas.Apart.{all_filter, apart_filter}
use Rattle.cs_sql.proofs.StatementsLemmas.Orders.{all_permutation, apart_map, apart_permutation, tied, find_permutation, DontFall, rises}

-- a key and a body, as the table has them
abbrev bare : Row → List ℕ × List ℕ
bare r = (bytes (column r 2), bytes (column r 3))

abbrev table_of : Row → ℤ
table_of r = id_in (column r 1)

-- and as an answer shows them
abbrev pair : Output → List ℕ × List ℕ
pair o = pair_read o.1

-- what it is sorted by is its key
abbrev IsKeyed : Output → Type 0
IsKeyed o = (column o.0 0 ≡ Blob (pair o).0)

not_equal : (o p : Ordering) → is_eq o ≡ false → is_eq (ordering_then o p) ≡ false
not_equal Less p h = refl
not_equal Equal p h = absurd cc
not_equal Greater p h = refl

first_not_less : (o : Ordering) → is_lt (ordering_then o Equal) ≡ false → is_lt o ≡ false
first_not_less Less h = h
first_not_less Equal h = refl
first_not_less Greater h = h

module _ (tree : ℕ) (table : ℤ) where
  params : Row
  params = Int table ∷ []

  -- no output is sorted before the one before it, so no key is below the one before it
  dont_fall : (os : List Output) → AllByRecursion IsKeyed os → IsSorted (output_cmp (pairs_in tree)) os → DontFall nat_list_cmp_total exact_bytes (map pair os)
  dont_fall [] all h = tt
  dont_fall (x ∷ []) all h = tt
  dont_fall (x ∷ y ∷ os) all h = (
    first_not_less _ (ap (λ o. is_lt (ordering_then o Equal)) (sym (value_cmp-Blob (pair y).0 (pair x).0) ∙ (λ i. value_cmp (sym all.1.0 i) (sym all.0 i))) ∙ h 0 x (omega arith) (omega arith)),
    dont_fall (y ∷ os) all.1 (λ k d a b.
        let n : suc k + 1 ≡ suc (k + 1) = omega arith in
        ap (λ j. is_lt (output_cmp (pairs_in tree) (get_or (x ∷ y ∷ os) j d) (get_or (y ∷ os) k d))) (sym n) ∙ h (suc k) d (omega arith) (omega (arith, b))),
  )

module _ (table : ℤ) where
  tied_in : (r s : Row) → table_of r ≡ table → table_of s ≡ table → eq_by_cmp place_cmp (row_pair r).0 (row_pair s).0 ≡ eq_by_cmp by_bytes (bare r).0 (bare s).0
  tied_in r s er es = rw (er, es) (ap (λ o. is_eq (ordering_then o (by_bytes (bare r).0 (bare s).0))) (equal_from _ ((eq_by_cmp_equiv int_cmp_total).refl table)))

  all_tied : (r : Row) (rs : List Row) → table_of r ≡ table → AllByRecursion (λ s. table_of s ≡ table) rs → AllByRecursion (λ s. same_key place_cmp row_pair r s ≡ false) rs
      → AllByRecursion (λ s. eq_by_cmp by_bytes (bare r).0 (bare s).0 ≡ false) rs
  all_tied r [] er all a = tt
  all_tied r (s ∷ rs) er all a = (sym (tied_in r s er all.0) ∙ a.0, all_tied r rs er all.1 a.1)

  apart_in : (rs : List Row) → AllByRecursion (λ r. table_of r ≡ table) rs → Apart (same_key place_cmp row_pair) rs → Apart (λ r s. tied nat_list_cmp_total exact_bytes (bare r) (bare s)) rs
  apart_in [] all a = tt
  apart_in (r ∷ rs) all a = (all_tied r rs all.0 all.1 a.0, apart_in rs all.1 a.1)

  find_in : (p : Row → Bool) (k : List ℕ) (rs : List Row) → AllByRecursion (λ r. p r ≡ is_eq (int_cmp (table_of r) table)) rs
      → find by_bytes k (map bare (filter p rs)) ≡ find place_cmp (table, k) (map row_pair rs)
  find_in p k [] all = refl
  find_in p k (r ∷ rs) all = elim (cases_Bool (p r)) [
    | inl here ↦
        let is : table_of r ≡ table = exact_signed _ _ (equal_from _ (sym all.0 ∙ here)) in
        let tie : eq_by_cmp place_cmp (table, k) (row_pair r).0 ≡ eq_by_cmp by_bytes k (bare r).0 =
        rw is (ap (λ o. is_eq (ordering_then o (by_bytes k (bare r).0))) (equal_from _ ((eq_by_cmp_equiv int_cmp_total).refl table))) in
        rw (here, tie, find_in p k rs all.1) refl
    | inr other ↦
        let off : eq_by_cmp place_cmp (table, k) (row_pair r).0 ≡ false = not_equal (int_cmp table (table_of r)) (by_bytes k (bare r).0) ((eq_by_cmp_equiv int_cmp_total).symm table (table_of r) ∙ sym all.0 ∙ other) in
        rw (other, off) (find_in p k rs all.1)
  ]

map_twice : {A B C : Type 0} (f : B → C) (g : A → B) (xs : List A) → map f (map g xs) ≡ map (λ x. f (g x)) xs
map_twice f g [] = refl
map_twice f g (x ∷ xs) = ap (λ ys. f (g x) ∷ ys) (map_twice f g xs)

module _ (tree : ℕ) (table : ℤ) (es : List Row) (m : IsMapped place_cmp row_pair IsRow es) (ordered : List Output) (rows : List Row)
    (same : IsPermutation (map (given (pairs_in tree) (Int table ∷ [])) (filter (passes_on in_table (Int table ∷ [])) es)) ordered)
    (sorted : IsSorted (output_cmp (pairs_in tree)) ordered) (shows : rows ≡ map (λ (o : Output). o.1) ordered) where
  lists : IsListing (λ key. get (from_entries {R = place_cmp} (map row_pair es)) (table, key)) (map pair_read rows)
  lists =
      let p = passes_on in_table (Int table ∷ []) in
      let these = filter p es in
      let show = given (pairs_in tree) (Int table ∷ []) in
      let typed : AllByRecursion IsRow these = all_filter IsRow p es m.typed in
      let passing : AllByRecursion (λ r. p r ≡ is_eq (int_cmp (table_of r) table)) es = all_from _ es (λ r h. table_passes table [] r (all_has IsRow es r m.typed h)) in
      let in_it : AllByRecursion (λ r. table_of r ≡ table) these = all_from _ these (λ r h.
      let f = has_filtered p es r h in exact_signed _ _ (equal_from _ (sym (all_has _ es r passing f.0) ∙ f.1))) in
      let pairs : map pair_read rows ≡ map pair ordered = ap (map pair_read) shows ∙ map_twice pair_read (λ (o : Output). o.1) ordered in
      let moved : IsPermutation (map bare these) (map pair ordered) = subst (λ xs. IsPermutation xs (map pair ordered)) (map_twice pair show these) (IsPermutation-map pair (map show these) ordered same) in
      let apart : Apart (tied nat_list_cmp_total exact_bytes) (map bare these) = apart_map (tied nat_list_cmp_total exact_bytes) bare these (apart_in table these in_it (apart_filter (same_key place_cmp row_pair) p es m.keys_apart)) in
      let keyed : AllByRecursion IsKeyed (map show these) = keyed_all these typed in
      let level = dont_fall tree table ordered (all_permutation IsKeyed (map show these) ordered same keyed) sorted in
      subst (IsListing (λ key. get (from_entries {R = place_cmp} (map row_pair es)) (table, key))) (sym pairs) (record {
        rises = rises nat_list_cmp_total exact_bytes (map pair ordered) level
            (apart_permutation (tied nat_list_cmp_total exact_bytes) (λ a b. (eq_by_cmp_equiv nat_list_cmp_total).symm a.0 b.0) (λ a. (eq_by_cmp_equiv nat_list_cmp_total).refl a.0) (map bare these) (map pair ordered) moved apart);
        found = λ key. find_permutation nat_list_cmp_total exact_bytes (map bare these) (map pair ordered) moved apart key ∙ find_in table p key es passing
            ∙ sym (get-from_entries place_total (map row_pair es) (table, key));
      })
    where
      keyed_all : (rs : List Row) → AllByRecursion IsRow rs → AllByRecursion IsKeyed (map (given (pairs_in tree) (Int table ∷ [])) rs)
      keyed_all [] all = tt
      keyed_all (r ∷ rs) all = (rw all.0.4 refl, keyed_all rs all.1)

module _ (old new : State) (has : IsKept old.now) (rows : List Row) (table : ℤ) where
  pub lists_at : (space : Space) → Shown (list_text space) (Int table ∷ []) old new rows → IsListing (λ key. get (placed space (contents_in old.now.trees)) (table, key)) (map pair_read rows)
  lists_at space h =
      let a = reads_as (list_text space) (Int table ∷ []) old new store_schema has.schema _ (list_is space).0 (list_plain space) (list_is space).1 rows h in
      let it = ordered_is (tree_of space) in_table pair_terms (rising_by 2) old.now.trees (Int table ∷ []) rows (a.answer Null) in
      let same = subst (λ (es : List Row). IsPermutation (map (given (pairs_in (tree_of space)) (Int table ∷ [])) (filter (passes_on in_table (Int table ∷ [])) es)) it.ordered) (uncovered space old.now.trees) it.same in
      let listing = lists (tree_of space) table (old.now.trees (tree_of space)) (mapped_at space old.now has) it.ordered rows same it.sorted it.shown_are in
      subst (λ (m : Bodies). IsListing (λ key. get m (table, key)) (map pair_read rows)) (sym (placed_is space old.now.trees)) listing
