-- Changesets in range are taken together, or have a fault.
use Rattle.std.proofs.Common.{◌≡◌, ℕ, Bool, true, List, [], ◌∷◌, ◌++◌, map, fold, refl, sym, ap, ◌∙◌, inl, inr, Option, None}
use Rattle.std.specs.Prelude.{◌≢◌, ◌⊎◌, IsUtf8}
use Rattle.std.specs.Ordering.{is_eq, ordering_reverse}
use Rattle.std.specs.declared.cmp.Ordering.{Ordering}
use Rattle.std.specs.declared.cmp.Ordering.TheVariants.{Less, Equal, Greater}
use Rattle.std.specs.List.{AllByRecursion, Contains, filter, list_any}
use Rattle.std.specs.List.Sorted.{IsStrictlySortedBy}
use Rattle.std.specs.Map.{keys_of}
use Rattle.std.proofs.lemmas.Cmp.{nat_list_cmp_total}
use Rattle.std.proofs.lemmas.List.Elements.{All-contains, All-contains_itself, recursion_from_All}
use Rattle.std.proofs.lemmas.Map.Keys.{IsDistinct-from_sorted, sorted_head, sorted_tail}
use Rattle.cs_value.specs.Facts.{by_test}
use Rattle.cs_value.specs.Catalog.{AreTables}
use Rattle.cs_value.specs.declared.catalog.TableDef.{TableDef}
use Rattle.cs_change.specs.Spelling.{FitsChangeset}
use Rattle.cs_change.specs.declared.change.Change.{Change}
use Rattle.cs_change.specs.declared.group.Group.{Group}
use Rattle.cs_order.specs.Order.{Keys, by_bytes, same_bytes}
use Rattle.cs_order.specs.Facts.{same_is, Above, above_more, cons_sorted}
use Rattle.cs_normal.specs.keyed.Changes.{Changes, change_at}
use Rattle.cs_normal.specs.Headers.{header, headers, has_other_name, tables_of_headers, CatalogOrHeaderFault}
use Rattle.cs_normalising.specs.Laws.{FormOrUnfit}
use Rattle.cs_normal.specs.keyed.NormalForm.{keyed, AreKeyed}
use Rattle.cs_normalising.specs.NormalFormOf.{changes_of, HaveKeys}
use Rattle.cs_normal.specs.declared.normal.TableChanges.{TableChanges}
use Rattle.cs_normalising.specs.declared.unfit.Unfit.{Unfit}
use Rattle.cs_normalising.specs.declared.unfit.Unfit.TheVariants.{Memory as NotFit}
use Rattle.cs_group.specs.Combined.{tables_of, HasFirstUnfitChangeset, CombinedOrFault}
use Rattle.cs_group.specs.Steps.Joining.{then_form}
use Rattle.cs_group.specs.Steps.Reading.{AreTakenTogether, IsReadJoinOf, read_each}
use Rattle.cs_group.specs.Steps.TableByTable.{AreMade, no_table, next}
use Rattle.cs_group.specs.declared.combining.CombineFault.TheVariants.{Headers, Unfit as NoForm}
use Rattle.cs_group.proofs.GroupFolds.{listing, listing_sorted, found_at}
use Rattle.cs_group.specs.Steps.FormLaws.{FormLaws}
use Rattle.cs_group.proofs.ReadJoins.{read_combined}

-- ---- keys in order

abbrev IsAmong : List ℕ → Keys → Type 0
IsAmong q keys = list_any (same_bytes q) keys ≡ true

no_keys : IsStrictlySortedBy by_bytes []
unfolding IsStrictlySortedBy
no_keys = tt

among_first : (q k : List ℕ) (keys : Keys) → same_bytes q k ≡ true → IsAmong q (k ∷ keys)
among_first q k keys e = rw e refl

among_rest : (q k : List ℕ) (keys : Keys) → IsAmong q keys → IsAmong q (k ∷ keys)
among_rest q k keys h = by_test (same_bytes q k) _ (λ e. rw e refl) (λ e. rw e h)

first_or_rest : (q k : List ℕ) (keys : Keys) → IsAmong q (k ∷ keys) → (same_bytes q k ≡ true) ⊎ IsAmong q keys
first_or_rest q k keys h = by_test (same_bytes q k) _ (λ e. inl e) (λ e. inr (rw e at h))

-- keys in order, with one more among them
record WithKey (key : List ℕ) (before : Keys) : Type 0 where
  keys : Keys
  rising : IsStrictlySortedBy by_bytes keys
  above : (low : List ℕ) → by_bytes low key ≡ Less → Above low before → Above low keys
  new : (q : List ℕ) → same_bytes q key ≡ true → IsAmong q keys
  old : (q : List ℕ) → IsAmong q before → IsAmong q keys

before_all : (key k : List ℕ) (keys : Keys) → IsStrictlySortedBy by_bytes (k ∷ keys) → by_bytes key k ≡ Less → WithKey key (k ∷ keys)
before_all key k keys rising less = record {
  keys = key ∷ k ∷ keys;
  rising = cons_sorted key (k ∷ keys) (less, above_more key k keys less (sorted_head by_bytes k keys rising)) rising;
  above = λ low below all. (below, all);
  new = λ q e. among_first q key (k ∷ keys) e;
  old = λ q h. among_rest q key (k ∷ keys) h;
}

there_already : (key k : List ℕ) (keys : Keys) → IsStrictlySortedBy by_bytes (k ∷ keys) → key ≡ k → WithKey key (k ∷ keys)
there_already key k keys rising same = record {
  keys = k ∷ keys;
  rising = rising;
  above = λ low below all. all;
  new = λ q e. among_first q k keys (ap (same_bytes q) (sym same) ∙ e);
  old = λ q h. h;
}

behind_first : (key k : List ℕ) (keys : Keys) → IsStrictlySortedBy by_bytes (k ∷ keys) → by_bytes k key ≡ Less → WithKey key keys → WithKey key (k ∷ keys)
behind_first key k keys rising less rest = record {
  keys = k ∷ rest.keys;
  rising = cons_sorted k rest.keys (rest.above k less (sorted_head by_bytes k keys rising)) rest.rising;
  above = λ low below all. (all.0, rest.above low below all.1);
  new = λ q e. among_rest q k rest.keys (rest.new q e);
  old = λ q h. elim (first_or_rest q k keys h) [ inl e ↦ among_first q k rest.keys e | inr h ↦ among_rest q k rest.keys (rest.old q h) ];
}

with_key : (key : List ℕ) (keys : Keys) → IsStrictlySortedBy by_bytes keys → WithKey key keys
with_key key [] rising = record {
  keys = key ∷ [];
  rising = cons_sorted key [] tt rising;
  above = λ low below all. (below, tt);
  new = λ q e. among_first q key [] e;
  old = λ q h. among_rest q key [] h;
}
with_key key (k ∷ keys) rising =
    let split : (o : Ordering) → by_bytes key k ≡ o → WithKey key (k ∷ keys) = elim [
      | Less ↦ λ is. before_all key k keys rising is
      | Equal ↦ λ is. there_already key k keys rising (same_is key k (ap is_eq is))
      | Greater ↦ λ is. behind_first key k keys rising (nat_list_cmp_total.antisymm k key ∙ ap ordering_reverse is) (with_key key keys (sorted_tail by_bytes k keys rising))
    ] in
    split (by_bytes key k) refl

-- these keys, each once and in order
record InOrder (all : Keys) : Type 0 where
  keys : Keys
  rising : IsStrictlySortedBy by_bytes keys
  each : (q : List ℕ) → IsAmong q all → IsAmong q keys

in_order : (all : Keys) → InOrder all
in_order [] = record { keys = []; rising = no_keys; each = λ q h. h }
in_order (key ∷ all) =
    let rest = in_order all in
    let more = with_key key rest.keys rest.rising in
    record {
      keys = more.keys;
      rising = more.rising;
      each = λ q h. elim (first_or_rest q key all h) [ inl e ↦ more.new q e | inr h ↦ more.old q (rest.each q h) ];
    }

-- ---- the changes of one table, taken together

all_keys : List Changes → Keys
all_keys [] = []
all_keys (changes ∷ lists) = keys_of changes ++ all_keys lists

among_front : (q : List ℕ) (front rest : Keys) → IsAmong q front → IsAmong q (front ++ rest)
among_front q [] rest h = cc
among_front q (k ∷ front) rest h = elim (first_or_rest q k front h) [ inl e ↦ among_first q k (front ++ rest) e | inr h ↦ among_rest q k (front ++ rest) (among_front q front rest h) ]

among_behind : (q : List ℕ) (front rest : Keys) → IsAmong q rest → IsAmong q (front ++ rest)
among_behind q [] rest h = h
among_behind q (k ∷ front) rest h = among_rest q k (front ++ rest) (among_behind q front rest h)

none_at : (q : List ℕ) (changes : Changes) → (IsAmong q (keys_of changes) → ⊥) → change_at q changes ≡ None
none_at q [] none = refl
none_at q (e ∷ changes) none =
    by_test (same_bytes q e.0) _
    (λ same. absurd (none (among_first q e.0 (keys_of changes) same)))
    (λ other. rw other (none_at q changes (λ h. none (among_rest q e.0 (keys_of changes) h))))

none_together : (marks : List Bool) (q : List ℕ) (lists : List Changes) → (IsAmong q (all_keys lists) → ⊥) → fold (then_form marks) None (map (change_at q) lists) ≡ None
unfolding all_keys
none_together marks q [] none = refl
none_together marks q (changes ∷ lists) none =
    let first : change_at q changes ≡ None = none_at q changes (λ h. none (among_front q (keys_of changes) (all_keys lists) h)) in
    ap (λ (o : Option Change). fold (then_form marks) (then_form marks None o) (map (change_at q) lists)) first ∙ none_together marks q lists (λ h. none (among_behind q (keys_of changes) (all_keys lists) h))

pub together : (marks : List Bool) (lists : List Changes) → (joined : Changes) × AreTakenTogether marks lists joined
together marks lists =
    let left : List ℕ → Option Change = λ q. fold (then_form marks) None (map (change_at q) lists) in
    let ordered = in_order (all_keys lists) in (
      listing left ordered.keys,
      record {
        ordered = listing_sorted left ordered.keys ordered.rising;
        at_key = λ q.
            found_at left q ordered.keys (IsDistinct-from_sorted by_bytes ordered.keys ordered.rising)
            ∙ by_test (list_any (same_bytes q) ordered.keys) _ (λ e. rw e refl) (λ e. rw e (sym (none_together marks q lists (λ h. let there = ordered.each q h in cc))));
      },
    )

-- ---- all tables

abbrev HasText : TableDef → Type 0
HasText table = IsUtf8 table.name

all_filter : (P : TableDef → Type 0) (test : TableDef → Bool) (tables : List TableDef) → AllByRecursion P tables → AllByRecursion P (filter test tables)
all_filter P test [] all = tt
all_filter P test (table ∷ tables) all =
    by_test (test table) _ (λ e. rw e (all.0, all_filter P test tables all.1)) (λ e. rw e (all_filter P test tables all.1))

first_texts : (headers : List TableDef) → AllByRecursion HasText headers → AllByRecursion HasText (tables_of_headers headers)
unfolding tables_of_headers
first_texts [] all = tt
first_texts (first ∷ others) all =
    (all.0, all_filter HasText (has_other_name first) (tables_of_headers others) (first_texts others all.1))

all_both : (P : TableDef → Type 0) (front rest : List TableDef) → AllByRecursion P front → AllByRecursion P rest → AllByRecursion P (front ++ rest)
all_both P [] rest some others = others
all_both P (table ∷ front) rest some others = (some.0, all_both P front rest some.1 others)

group_texts : (groups : List Group) → FitsChangeset groups → AllByRecursion HasText (map header groups)
group_texts [] fits = tt
group_texts (group ∷ groups) fits = (fits.0.0.text, group_texts groups fits.1)

header_texts : (changesets : List (List Group)) → AllByRecursion FitsChangeset changesets → AllByRecursion HasText (headers changesets)
header_texts [] fits = tt
header_texts (groups ∷ changesets) fits =
    all_both HasText (map header groups) (headers changesets) (group_texts groups fits.0) (header_texts changesets fits.1)

keyed_at : (tables : List TableDef) (table : TableDef) (changesets : List (List Group)) → Contains tables table → AllByRecursion (HaveKeys tables) changesets → AllByRecursion (AreKeyed table.key_marks) (read_each table.name changesets)
keyed_at tables table [] there keys = tt
keyed_at tables table (groups ∷ changesets) there keys =
    (All-contains (λ (t : TableDef). AreKeyed t.key_marks (changes_of t.name groups)) tables table keys.0 there, keyed_at tables table changesets there keys.1)

made_of : (changesets : List (List Group)) (all tables : List TableDef) → AllByRecursion (HaveKeys all) changesets → AllByRecursion (Contains all) tables → AllByRecursion HasText tables
    → (made : List TableChanges) × AreMade (IsReadJoinOf changesets) tables made
made_of changesets all [] keys there texts = ([], no_table)
made_of changesets all (table ∷ tables) keys there texts =
    let joined = together table.key_marks (map (keyed table.key_marks) (read_each table.name changesets)) in
    let holds : IsReadJoinOf changesets table joined.0 = record { once = keyed_at all table changesets there.0 keys; together = joined.1; text = texts.0 } in
    let rest = made_of changesets all tables keys there.1 texts.1 in
    (_, next table joined.0 holds rest.1)

-- ---- changesets

Unfits : List TableDef → List (List Group) → Type 0
Unfits tables changesets = (fault : Unfit) × (fault ≢ NotFit) × HasFirstUnfitChangeset fault tables changesets

keys_or_unfit : FormOrUnfit → (tables : List TableDef) (changesets : List (List Group)) → AreTables tables → AllByRecursion FitsChangeset changesets → AllByRecursion (HaveKeys tables) changesets ⊎ Unfits tables changesets
unfolding Unfits
keys_or_unfit form tables [] are fits = inl tt
keys_or_unfit form tables (groups ∷ changesets) are fits =
    elim (form tables groups are fits.0) [
      | inr (fault, other, unfit) ↦ inr (fault, other, inl unfit)
      | inl (normal, is) ↦ elim (keys_or_unfit form tables changesets are fits.1) [
        | inr (fault, other, told) ↦ inr (fault, other, inr (is.fit, told))
        | inl keys ↦ inl (is.fit.1, keys)
      ]
    ]

pub combined_or_fault : FormLaws → CatalogOrHeaderFault → FormOrUnfit → CombinedOrFault
unfolding Unfits
combined_or_fault laws catalog form changesets fits =
    let tables = tables_of changesets in
    elim (catalog (headers changesets)) [
      | inr (fault, other, told) ↦ inr (Headers fault, (λ e. cc), (other, told))
      | inl (one_shape, are) ↦ elim (keys_or_unfit form tables changesets are fits) [
        | inr (fault, other, told) ↦ inr (NoForm fault, (λ e. cc), (other, (one_shape, are), told))
        | inl keys ↦
            let there = recursion_from_All (Contains tables) tables (All-contains_itself tables) in
            let texts = first_texts (headers changesets) (header_texts changesets fits) in
            let made = made_of changesets tables tables keys there texts in
            inl (made.0, read_combined laws changesets tables made.0 refl one_shape are fits made.1)
      ]
    ]
