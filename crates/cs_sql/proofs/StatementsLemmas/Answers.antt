-- The rows that `tab = ?1 AND key = ?2` finds.
use Rattle.std.proofs.Common.{◌≡◌, inl, inr, ℕ, ℤ, Bool, true, false, ◌&&◌, cond, List, [], ◌∷◌, map, Some, refl, sym, ap, subst, ◌∙◌}
use Rattle.std.specs.declared.cmp.Ordering.{Ordering}
use Rattle.std.specs.declared.cmp.Ordering.TheVariants.{Less, Equal, Greater}
use Rattle.std.specs.Ordering.{is_eq, eq_by_cmp, int_cmp, ordering_then}
use Rattle.std.specs.Cmp.{IsTotalOrder, eq_by_cmp_equiv}
use Rattle.std.specs.List.{filter, flat_map, list_all}
use Rattle.std.specs.List.Sorted.{IsPermutation, IsSorted}
use Rattle.std.specs.FinMap.{IsAntisymmetric}
use Rattle.std.proofs.lemmas.Bool.{cases_Bool}
use Rattle.std.proofs.lemmas.Cmp.{int_cmp_total, nat_list_cmp_total, then_total, on_total}
use Rattle.std.proofs.lemmas.Map.Lookups.{exact_pairs, exact_signed, exact_bytes}
use Rattle.std.proofs.lemmas.List.Sorted.{IsPermutation-map}
use Rattle.sqlite.specs.Order.{Row}
use Rattle.sqlite.specs.Query.{Query, IsAnswer, Output, output, output_cmp}
use Rattle.sqlite.specs.Term.{Term, holds, eval_all}
use Rattle.sqlite_value.specs.declared.keys.Key.{Key}
use Rattle.sqlite.specs.Program.{overlay}
use Rattle.sqlite.specs.Tree.{Trees}
use Rattle.sqlite.specs.Ops.{binary, is_true, from_truth}
use Rattle.sqlite_value.specs.declared.value.Value.TheVariants.{Int, Blob, Text as Words}
use Rattle.sqlite_value.proofs.OrderLemmas.{value_cmp-Int, value_cmp-Blob, value_cmp-Text}
use Rattle.sqlite_sql.specs.declared.ops.BinaryOp.TheVariants.{Compare}
use Rattle.sqlite_sql.specs.declared.ops.CompareOp.TheVariants.{Eq}
use Rattle.sqlite.specs.Collation.TheVariants.{Binary}
use Rattle.cs_order.specs.Order.{by_bytes}
use Rattle.cs_store.specs.Contents.{StorePlace, place_cmp}
use Rattle.cs_sql.specs.statements.Tables.{IsRow, row_pair, IsMeta, value_pair, IsLog, entry_pair}
use Rattle.cs_sql.proofs.StatementsLemmas.Meanings.{at_place, at_name, at_version, in_table, query_on}

pub place_total : IsTotalOrder place_cmp
place_total = then_total (on_total (λ (p : StorePlace). p.0) int_cmp_total) (on_total (λ (p : StorePlace). p.1) nat_list_cmp_total)

pub place_exact : IsAntisymmetric place_cmp
place_exact = exact_pairs int_cmp (by_bytes) exact_signed exact_bytes

abbrev pub params_at : ℤ → List ℕ → Row
params_at table key = Int table ∷ Blob key ∷ []

-- whether the row passes the terms
abbrev pub passes_on : List Term → Row → Row → Bool
passes_on terms params r = list_all (holds (params ∷ r ∷ [])) terms

abbrev pub passes : Row → Row → Bool
passes = passes_on at_place

truth_is : (b : Bool) → is_true (from_truth (Some b)) ≡ b
truth_is true = refl
truth_is false = refl

same_int : (a b : ℤ) → is_true (binary (Compare Eq Binary) (Int a) (Int b)) ≡ is_eq (int_cmp a b)
unfolding binary
same_int a b = truth_is _ ∙ ap is_eq (value_cmp-Int a b)

same_blob : (a b : List ℕ) → is_true (binary (Compare Eq Binary) (Blob a) (Blob b)) ≡ is_eq (by_bytes a b)
unfolding binary
same_blob a b = truth_is _ ∙ ap is_eq (value_cmp-Blob a b)

same_text : (a b : List ℕ) → is_true (binary (Compare Eq Binary) (Words a) (Words b)) ≡ is_eq (by_bytes a b)
unfolding binary
same_text a b = truth_is _ ∙ ap is_eq (value_cmp-Text a b)

and_true : (b : Bool) → (b && true) ≡ b
and_true true = refl
and_true false = refl

both_eq : (o p : Ordering) → (is_eq o && (is_eq p && true)) ≡ is_eq (ordering_then o p)
both_eq Less p = refl
both_eq Equal Less = refl
both_eq Equal Equal = refl
both_eq Equal Greater = refl
both_eq Greater p = refl

pub passes_is : (table : ℤ) (key : List ℕ) (extra : Row) (r : Row) → IsRow r → passes (Int table ∷ Blob key ∷ extra) r ≡ eq_by_cmp place_cmp (table, key) (row_pair r).0
passes_is table key extra r it = rw it.4 (
    ap (λ b. b && (is_true (binary (Compare Eq Binary) (Blob it.2) (Blob key)) && true)) (same_int it.1 table)
    ∙ ap (λ b. is_eq (int_cmp it.1 table) && (b && true)) (same_blob it.2 key)
    ∙ both_eq (int_cmp it.1 table) (by_bytes it.2 key)
    ∙ (eq_by_cmp_equiv place_total).symm (it.1, it.2) (table, key))

pub name_passes : (name : List ℕ) (extra : Row) (r : Row) → IsMeta r → passes_on at_name (Words name ∷ extra) r ≡ eq_by_cmp (by_bytes) name (value_pair r).0
name_passes name extra r it = rw it.3 (
    ap (λ b. b && true) (same_text it.1 name) ∙ and_true _ ∙ (eq_by_cmp_equiv nat_list_cmp_total).symm it.1 name)

pub version_passes : (version : ℤ) (extra : Row) (r : Row) → IsLog r → passes_on at_version (Int version ∷ extra) r ≡ eq_by_cmp int_cmp version (entry_pair r).0
version_passes version extra r it = rw it.4 (
    ap (λ b. b && true) (same_int it.0 version) ∙ and_true _ ∙ (eq_by_cmp_equiv int_cmp_total).symm it.0 version)

pub table_passes : (table : ℤ) (extra : Row) (r : Row) → IsRow r → passes_on in_table (Int table ∷ extra) r ≡ is_eq (int_cmp (row_pair r).0.0 table)
table_passes table extra r it = rw it.4 (ap (λ b. b && true) (same_int it.1 table) ∙ and_true _)

-- what a row shows by these terms
abbrev pub shown : List Term → Row → Row → Row
shown project params r = eval_all project (params ∷ r ∷ [])

-- what a row gives an answer, with what it is sorted by
abbrev pub given : Query → Row → Row → Output
given q params r = output q (params ∷ r ∷ [])

module _ (tree : ℕ) (terms project : List Term) (order : List (Term × Key)) where
  given_are : (params : Row) (es : List Row)
      → map (output (query_on tree terms project order)) (flat_map (λ r. cond (passes_on terms params r) ((params ∷ r ∷ []) ∷ []) []) es) ≡ map (given (query_on tree terms project order) params) (filter (passes_on terms params) es)
  given_are params [] = refl
  given_are params (r ∷ es) = elim (cases_Bool (passes_on terms params r)) [
    | inl found ↦ rw found (ap (λ rows. given (query_on tree terms project order) params r ∷ rows) (given_are params es))
    | inr other ↦ rw other (given_are params es)
  ]

  -- the answer is those rows, in an order that is asked for
  pub record IsOrdered (db : Trees) (params : Row) (rows : List Row) : Type 0 where
    pub ordered : List Output
    pub same : IsPermutation (map (given (query_on tree terms project order) params) (filter (passes_on terms params) (overlay db [] tree))) ordered
    pub sorted : IsSorted (output_cmp (query_on tree terms project order)) ordered
    pub shown_are : rows ≡ map (λ (o : Output). o.1) ordered

  pub ordered_is : (db : Trees) (params : Row) (rows : List Row) → IsAnswer (query_on tree terms project order) (overlay db []) params rows → IsOrdered db params rows
  ordered_is db params rows a = record {
    ordered = a.ordered;
    same = subst (λ xs. IsPermutation xs a.ordered) (a.distinct ∙ ap (map (output (query_on tree terms project order))) a.grouped ∙ given_are params (overlay db [] tree)) a.same;
    sorted = a.sorted;
    shown_are = a.shown;
  }

  shown_map : (params : Row) (es : List Row) → map (λ (o : Output). o.1) (map (given (query_on tree terms project order) params) es) ≡ map (shown project params) es
  shown_map params [] = refl
  shown_map params (r ∷ es) = ap (λ rows. shown project params r ∷ rows) (shown_map params es)

  -- the answer is those rows, in some order
  pub answer_is : (db : Trees) (params : Row) (rows : List Row) → IsAnswer (query_on tree terms project order) (overlay db []) params rows
      → IsPermutation (map (shown project params) (filter (passes_on terms params) (overlay db [] tree))) rows
  answer_is db params rows a =
      let it = ordered_is db params rows a in
      subst (λ xs. IsPermutation xs rows) (shown_map params (filter (passes_on terms params) (overlay db [] tree)))
      (subst (IsPermutation (map (λ (o : Output). o.1) (map (given (query_on tree terms project order) params) (filter (passes_on terms params) (overlay db [] tree))))) (sym it.shown_are)
      (IsPermutation-map (λ (o : Output). o.1) (map (given (query_on tree terms project order) params) (filter (passes_on terms params) (overlay db [] tree))) it.ordered it.same))
