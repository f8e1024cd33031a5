-- Names of tables, what a catalog of them holds, and changes in normal form. Crates above cite it.
use Rattle.std.proofs.Common.{◌≡◌, ℕ, Bool, true, false, List, [], ◌∷◌, Some, None, refl, sym, subst, ap, ◌∙◌, ◌≢◌, ◌+◌, ◌<◌, length, get_or, take, arith, inl, inr, zero, suc, map, ◌⊎◌, ◌||◌}
use native.Mathlib.Numerals.{unary_clauses}
use Rattle.std.specs.Ordering.{is_eq}
use Rattle.std.specs.Cmp.{eq_by_cmp_equiv}
use Rattle.std.specs.List.{All, AllPairs, Contains, AllByRecursion, filter, list_any}
use Rattle.std.specs.Map.{keys_of}
use Rattle.std.specs.Str.{bytes_eq}
use Rattle.std.proofs.lemmas.Cmp.{nat_list_cmp_total}
use Rattle.std.proofs.lemmas.Bool.{cases_eq, cases_lt}
use Rattle.std.proofs.lemmas.List.{get_or-take, get_or_default, length-take-le}
use Rattle.std.proofs.lemmas.List.Elements.{recursion_from_All, All-contains_itself, Contains-append_cases, Contains-append_right, All-from_recursion, All-contains}
use Rattle.std.proofs.lemmas.Slice.Eq.{bytes_eq-Decides}
use Rattle.std.proofs.lemmas.List.FromFn.{get_or-range_with_len, length-range_with_len}
use Rattle.cs_value.specs.Catalog.{AreTables, marked}
use Rattle.cs_value.specs.declared.catalog.TableDef.{TableDef}
use Rattle.cs_value.specs.Key.{Place, FitsPlace}
use Rattle.cs_value.specs.Facts.{by_test, same_value-tells}
use Rattle.cs_value.specs.declared.value.Value.{Value}
use Rattle.cs_value.specs.declared.value.Field.{Field}
use Rattle.cs_value.specs.declared.value.Field.TheVariants.{Undefined, Is}
use Rattle.cs_record.specs.Spelling.{Fits}
use Rattle.cs_change.specs.declared.change.Change.{Change}
use Rattle.cs_change.specs.Spelling.{is_nonzero, marks_of, FitsChange, AreUpdateColumns}
use Rattle.cs_change.specs.Action.{action}
use Rattle.cs_change.specs.Columns.{fits, holds}
use Rattle.cs_change.specs.declared.change.Change.TheVariants.{Insert, Delete, Update}
use Rattle.cs_change.specs.Normal.{NormalUpdate, no_column, key_column, unmodified, modified, IsNormal}
use Rattle.cs_change.specs.Then.{is_idle}
use Rattle.cs_order.specs.Order.{same_bytes, Keys, key_at, places}
use Rattle.cs_order.specs.Facts.{Above}
use Rattle.cs_order.specs.Groups.{has_bytes, places_of}
use Rattle.cs_normal.specs.keyed.Changes.{Changes, change_at, key_bytes, IsSpelled}
use Rattle.cs_normal.specs.keyed.NormalForm.{marked_fields, change_key, normal_olds, normal_news, normal_form}
use Rattle.cs_normal.specs.keyed.Laws.{BytesTellKeys}
use Rattle.cs_normal.specs.Laws.{CatalogIsApart}
use Rattle.cs_normal.specs.Normal.{AreApart, IsOfTable, FitsCatalog, IsNormalTable, IsNormalChangeset, changes_in}
use Rattle.cs_normal.specs.declared.normal.TableChanges.{TableChanges}
use Rattle.cs_normal.specs.State.{IsRowOf, MayStandAt}

pub none_above : (key : List ℕ) (changes : Changes) → Above key (keys_of changes) → change_at key changes ≡ None
none_above key [] h = refl
none_above key (c ∷ changes) h =
    let e : same_bytes key c.0 ≡ false = ap is_eq h.0 in simp e (none_above key changes h.1)

abbrev pub HasOtherName : TableDef → TableDef → Type 0
HasOtherName table other = table.name ≢ other.name

pairs_apart : (tables : List TableDef) → AreTables tables → AllPairs HasOtherName tables
pairs_apart tables are i j d before within =
    let at = are.1 j within d in
    let short : i < length (take j tables) = omega (arith, length-take-le j tables (omega (arith, within))) in
    rw (get_or-take j tables i d before) at (at.3 i d short)

apart_from_pairs : (tables : List TableDef) → AllPairs HasOtherName tables → AreApart tables
apart_from_pairs [] pairs = tt
apart_from_pairs (table ∷ tables) pairs =
    let behind : All (HasOtherName table) tables = λ k d within. (let h = pairs 0 (k + 1) d (omega arith) (omega (arith, within)) in simp unary_clauses at h) in
    let rest : AllPairs HasOtherName tables = λ i j d before within. (let h = pairs (i + 1) (j + 1) d (omega (arith, before)) (omega (arith, within)) in simp unary_clauses at h) in
    (recursion_from_All (HasOtherName table) tables behind, apart_from_pairs tables rest)

pub are_apart : CatalogIsApart
are_apart tables are = apart_from_pairs tables (pairs_apart tables are)

-- two tables of one name are one
pub one_table : (tables : List TableDef) (t u : TableDef) → AreTables tables → Contains tables t → Contains tables u → t.name ≡ u.name → t ≡ u
one_table tables t u are (i, i_within, i_is) (j, j_within, j_is) same =
    let pairs = pairs_apart tables are in
    let j_is' : get_or tables j t ≡ u = get_or_default tables j t u j_within ∙ j_is in
    elim (cases_eq i j) [
      | inl e ↦ sym i_is ∙ ap (λ (k : ℕ). get_or tables k t) e ∙ j_is'
      | inr differ ↦ elim (cases_lt i j) [
        | inl before ↦ absurd (rw (i_is, j_is') at (pairs i j t before j_within) same)
        | inr behind ↦ absurd (rw (i_is, j_is') at (pairs j i t (omega (arith, behind, differ)) i_within) (sym same))
      ]
    ]

pub named : (name : List ℕ) → bytes_eq name name ≡ true
named name = (bytes_eq-Decides name name).1 refl

pub other_named : (some other : List ℕ) → some ≢ other → bytes_eq some other ≡ false
other_named some other differ =
    by_test (bytes_eq some other) _ (λ e. absurd (differ ((bytes_eq-Decides some other).0 e))) (λ e. e)

-- a filter keeps what passes
none_passes : (p : ℕ → Bool) (xs : List ℕ) → filter p xs ≡ [] → (k : ℕ) → k < length xs → p (get_or xs k 0) ≡ false
none_passes p [] none k within = absurd (omega (arith, within))
none_passes p (x ∷ xs) none zero within = by_test (p x) _ (λ e. (let none' = simp e at none in cc)) (λ e. e)
none_passes p (x ∷ xs) none (suc k) within =
    by_test (p x) _ (λ e. (let none' = simp e at none in cc)) (λ e. none_passes p xs (simp e at none) k (omega (arith, within)))

pub same_self : (x : List ℕ) → same_bytes x x ≡ true
same_self x = (eq_by_cmp_equiv nat_list_cmp_total).refl x

-- a name that is there has a place
pub has_place : (names : Keys) (name : List ℕ) → Contains names name → places_of names name ≡ [] → ⊥
has_place names name (k, within, is) none =
    let here : key_at names k ≡ name = get_or_default names k [] name within ∙ is in
    let at : get_or (places names) k 0 ≡ k = omega (arith, get_or-range_with_len 0 (length names) k 0 within) in
    let not_here : has_bytes names name (get_or (places names) k 0) ≡ false = none_passes (has_bytes names name) (places names) none k (omega (arith, within, length-range_with_len 0 (length names))) in
    let same : same_bytes name (key_at names k) ≡ true = subst (λ (q : List ℕ). same_bytes name q ≡ true) (sym here) (same_self name) in
    let other : same_bytes name (key_at names k) ≡ false = ap (has_bytes names name) (sym at) ∙ not_here in
    cc

pub here : (x : TableDef) (xs : List TableDef) → Contains (x ∷ xs) x
here x xs = (0, omega arith, refl)

pub behind : (x : TableDef) (xs : List TableDef) (y : TableDef) → Contains xs y → Contains (x ∷ xs) y
behind x xs y h = Contains-append_right (x ∷ []) xs y h

one_is : (x y : TableDef) → Contains (x ∷ []) y → x ≡ y
one_is x y (zero, within, is) = is
one_is x y (suc k, within, is) = absurd (omega (arith, within))

pub first_or_behind : (x : TableDef) (xs : List TableDef) (y : TableDef) → Contains (x ∷ xs) y → (x ≡ y) ⊎ Contains xs y
first_or_behind x xs y h =
    elim (Contains-append_cases (x ∷ []) xs y h) [ inl one ↦ inl (one_is x y one) | inr rest ↦ inr rest ]

pub same_or_not : (a b : List Bool) → (a ≡ b) ⊎ (a ≢ b)
same_or_not [] [] = inl refl
same_or_not [] (y ∷ ys) = inr (λ e. cc)
same_or_not (x ∷ xs) [] = inr (λ e. cc)
same_or_not (true ∷ xs) (true ∷ ys) =
    elim (same_or_not xs ys) [ inl e ↦ inl (ap (λ (ms : List Bool). true ∷ ms) e) | inr n ↦ inr (λ e. n (cc)) ]
same_or_not (false ∷ xs) (false ∷ ys) =
    elim (same_or_not xs ys) [ inl e ↦ inl (ap (λ (ms : List Bool). false ∷ ms) e) | inr n ↦ inr (λ e. n (cc)) ]
same_or_not (true ∷ xs) (false ∷ ys) = inr (λ e. cc)
same_or_not (false ∷ xs) (true ∷ ys) = inr (λ e. cc)

-- what fits the other tables fits all
pub fits_more : (table : TableDef) (tables : List TableDef) (changes : List TableChanges) → FitsCatalog tables changes → FitsCatalog (table ∷ tables) changes
fits_more table tables [] f = tt
fits_more table tables (first ∷ others) f = inr f

-- what is normal and of a catalog's tables in order has names of its own
others_apart : (table : TableDef) (tables : List TableDef) (normal : List TableChanges) → AllByRecursion (HasOtherName table) tables → FitsCatalog tables normal → AllByRecursion (λ other. table.name ≢ other.name) normal
others_apart table [] [] apart fits = tt
others_apart table [] (first ∷ others) apart fits = absurd fits
others_apart table (other ∷ tables) [] apart fits = tt
others_apart table (other ∷ tables) (first ∷ others) apart fits =
    elim fits [
      | inl here ↦ (λ e. apart.0 (e ∙ here.0.0), others_apart table tables others apart.1 here.1)
      | inr behind ↦ others_apart table tables (first ∷ others) apart.1 behind
    ]

pub fitting_normal : (tables : List TableDef) (normal : List TableChanges) → AreApart tables → FitsCatalog tables normal → AllByRecursion IsNormalTable normal → IsNormalChangeset normal
fitting_normal tables [] apart fits each = tt
fitting_normal [] (first ∷ others) apart fits each = absurd fits
fitting_normal (table ∷ tables) (first ∷ others) apart fits each =
    elim fits [
      | inl here ↦
          (each.0, subst (λ (name : List ℕ). AllByRecursion (λ other. name ≢ other.name) others) (sym here.0.0) (others_apart table tables others apart.0 here.1), fitting_normal tables others apart.1 here.1 each.1)
      | inr behind ↦ fitting_normal tables (first ∷ others) apart.1 behind each
    ]

-- a byte that isn't 0 is a mark
pub any_mark : (bytes : List ℕ) → list_any is_nonzero bytes ≡ list_any (λ m. m) (marks_of bytes)
any_mark [] = refl
any_mark (b ∷ bytes) = ap (λ (t : Bool). is_nonzero b || t) (any_mark bytes)

search_name : (all tables : List TableDef) (name : List ℕ) → AllByRecursion (Contains all) tables → ((table : TableDef) × Contains all table × (table.name ≡ name)) ⊎ AllByRecursion (λ (table : TableDef). table.name ≢ name) tables
search_name all [] name in' = inr tt
search_name all (table ∷ tables) name in' =
    by_test (bytes_eq table.name name) _ (λ e. inl (table, in'.0, (bytes_eq-Decides table.name name).0 e)) (λ f.
    let other : table.name ≢ name = λ e. (let t : bytes_eq table.name name ≡ true = (bytes_eq-Decides table.name name).1 e in cc) in
    elim (search_name all tables name in'.1) [ inl found ↦ inl found | inr none ↦ inr (other, none) ])

pub named_or_not : (tables : List TableDef) (name : List ℕ) → ((table : TableDef) × Contains tables table × (table.name ≡ name)) ⊎ ((table : TableDef) → Contains tables table → table.name ≢ name)
named_or_not tables name =
    elim (search_name tables tables name (recursion_from_All (Contains tables) tables (All-contains_itself tables))) [
      | inl found ↦ inl found
      | inr none ↦ inr (λ table in'. All-contains (λ (t : TableDef). t.name ≢ name) tables table (All-from_recursion (λ (t : TableDef). t.name ≢ name) tables none) in')
    ]

-- each table of a changeset that fits is one of the catalog's
abbrev pub IsOfOne : List TableDef → TableChanges → Type 0
IsOfOne tables first = (table : TableDef) × Contains tables table × IsOfTable table first

of_each : (all tables : List TableDef) (changes : List TableChanges) → AllByRecursion (Contains all) tables → FitsCatalog tables changes → AllByRecursion (IsOfOne all) changes
of_each all tables [] in' fits = tt
of_each all [] (first ∷ others) in' fits = absurd fits
of_each all (table ∷ tables) (first ∷ others) in' fits =
    elim fits [
      | inl here ↦ ((table, in'.0, here.0), of_each all tables others in'.1 here.1)
      | inr behind ↦ of_each all tables (first ∷ others) in'.1 behind
    ]

pub of_one : (tables : List TableDef) (changes : List TableChanges) → FitsCatalog tables changes → AllByRecursion (IsOfOne tables) changes
of_one tables changes fits =
    of_each tables tables changes (recursion_from_All (Contains tables) tables (All-contains_itself tables)) fits

no_changes_of : (tables : List TableDef) (name : List ℕ) (changes : List TableChanges) → ((table : TableDef) → Contains tables table → table.name ≢ name) → AllByRecursion (IsOfOne tables) changes → changes_in name changes ≡ []
no_changes_of tables name [] none of = refl
no_changes_of tables name (first ∷ others) none of =
    by_test (bytes_eq first.name name) _ (λ e. absurd (none of.0.0 of.0.1 (sym of.0.2.0 ∙ (bytes_eq-Decides first.name name).0 e))) (λ f. simp f (no_changes_of tables name others none of.1))

-- a name that no table has has no changes
pub absent_name : (tables : List TableDef) (name : List ℕ) (changes : List TableChanges) → ((table : TableDef) → Contains tables table → table.name ≢ name) → FitsCatalog tables changes → changes_in name changes ≡ []
absent_name tables name changes none fits = no_changes_of tables name changes none (of_one tables changes fits)

pub marked_spelled : (marks : List Bool) (row : List Value) → IsSpelled row → IsSpelled (marked marks row)
marked_spelled [] row f = tt
marked_spelled (m ∷ marks) [] f = tt
marked_spelled (true ∷ marks) (v ∷ row) f = (f.0, marked_spelled marks row f.1)
marked_spelled (false ∷ marks) (v ∷ row) f = marked_spelled marks row f.1

fields_spelled : (marks : List Bool) (old new : List Field) → AreUpdateColumns marks old new → AllByRecursion Fits old → IsSpelled (marked_fields marks old)
unfolding marked_fields
fields_spelled [] old new u f = tt
fields_spelled (m ∷ marks) [] new u f = tt
fields_spelled (m ∷ marks) (o ∷ old) [] u f = absurd u
fields_spelled (true ∷ marks) (Is k ∷ old) (n ∷ new) u f = (f.0, fields_spelled marks old new u.1 f.1)
fields_spelled (true ∷ marks) (Undefined ∷ old) (n ∷ new) u f = absurd u.0
fields_spelled (false ∷ marks) (o ∷ old) (n ∷ new) u f = fields_spelled marks old new u.1 f.1

pub key_spelled : (marks : List Bool) (change : Change) → FitsChange marks change → IsSpelled (change_key marks change)
key_spelled marks (Insert flag new) f = marked_spelled marks new f.1
key_spelled marks (Delete flag old) f = marked_spelled marks old f.1
key_spelled marks (Update flag old new) f = fields_spelled marks old new f.0 f.1

pub row_fits : BytesTellKeys → (tables : List TableDef) (table : TableDef) (key : List ℕ) (values : List Value) (place : Place) → AreTables tables → Contains tables table → IsSpelled values → key ≡ key_bytes values → MayStandAt tables table.name key place → FitsPlace table.key_marks values place
row_fits apart tables table key values None are one spelled is at = tt
row_fits apart tables table key values (Some row) are one spelled is at =
    let same : at.0 ≡ table = one_table tables at.0 table are at.1 one at.2 in
    let r : IsRowOf table key row = subst (λ (t : TableDef). IsRowOf t key row) same at.3 in
    record {
      wide = r.fits.0;
      keyed = apart (marked table.key_marks row) values (marked_spelled table.key_marks row r.fits.1) spelled (sym r.keyed ∙ is);
    }

pub conjoin : {A : Type 0} {a a' : A} {r r' : List A} → a ≡ a' → r ≡ r' → a ∷ r ≡ a' ∷ r'
conjoin e f = cc

record Stays (marks : List Bool) (key : List Value) (old new : List Field) : Type 0 where
  olds : normal_olds marks old new ≡ old
  news : normal_news marks old new ≡ new
  keyed : marked_fields marks old ≡ key

columns_stay : {marks : List Bool} {key : List Value} {old new : List Field} → NormalUpdate marks key old new → Stays marks key old new
unfolding normal_olds normal_news marked_fields is_idle holds
columns_stay no_column = record { olds = refl; news = refl; keyed = refl }
columns_stay (key_column k l) =
    let rest = columns_stay l in
    record { olds = conjoin refl rest.olds; news = conjoin refl rest.news; keyed = conjoin refl rest.keyed }
columns_stay (unmodified l) =
    let rest = columns_stay l in
    record { olds = conjoin refl rest.olds; news = conjoin refl rest.news; keyed = rest.keyed }
columns_stay (modified u v differ l) =
    let rest = columns_stay l in
    elim (same_value-tells u v) [
      | inl e ↦ absurd (differ e.1)
      | inr e ↦ record { olds = simp e.0 (conjoin refl rest.olds); news = simp e.0 (conjoin refl rest.news); keyed = rest.keyed }
    ]

pub change_stays : (marks : List Bool) (key : List Value) (change : Change) → IsNormal marks key (action change) → (normal_form marks change ≡ Some change) × (change_key marks change ≡ key)
unfolding normal_form
change_stays marks key (Insert flag new) n = (refl, n.keyed)
change_stays marks key (Delete flag old) n = (refl, n.keyed)
change_stays marks key (Update flag old new) n =
    let s = columns_stay n.0 in
    let o = s.olds in
    let w = s.news in
    let b = n.1 in
    (simp (o, w, b) refl, s.keyed)

abbrev pub only_changes : Changes → List Change
only_changes changes = map (λ (keyed : List ℕ × Change). keyed.1) changes
