-- What is listed of each table is all that is pending.
use Rattle.std.proofs.Common.{◌≡◌, ◌≤◌, ◌<◌, ◌∙◌, ◌+◌, ◌++◌, ◌&&◌, inl, inr, ℕ, Bool, true, false, cond, T, List, [], ◌∷◌, map, Option, Some, None, arith, length, length-append, refl, ap, ap₂, subst, sym}
use Rattle.std.specs.Prelude.{ℤ, pos, negsuc}
use Rattle.std.specs.Cmp.{Equal-is, IsTotalOrder, int_cmp_is}
use Rattle.std.specs.FinMap.{IsAntisymmetric, entries, entries_sorted, find, get, get-entries, is_sorted, len, len-entries}
use Rattle.std.specs.FinMap.Entries.{below_all, same_entries}
use Rattle.std.specs.List.{AllByRecursion}
use Rattle.std.specs.Ordering.{eq_by_cmp, int_cmp, is_eq, is_lt, nat_cmp, ordering_then}
use Rattle.std.specs.Cmp.Lexicographic.{slice_cmp}
use Rattle.std.specs.declared.cmp.Ordering.{Ordering}
use Rattle.std.specs.declared.cmp.Ordering.TheVariants.{Less, Equal}
use Rattle.std.proofs.lemmas.Bool.Decides.{eqb_tells}
use Rattle.std.proofs.lemmas.Cmp.{int_cmp_total, nat_list_cmp_total, on_total, then_total}
use Rattle.std.proofs.lemmas.Int.{ints}
use Rattle.std.proofs.lemmas.Map.Lookups.{exact_bytes, exact_pairs, exact_signed}
use Rattle.std.proofs.lemmas.Option.{slice_get_cases, slice_get_within}
use Rattle.cs_value.specs.Facts.{by_test}
use Rattle.cs_value.specs.declared.catalog.TableDef.{TableDef}
use Rattle.cs_order.specs.Order.{by_bytes}
use Rattle.cs_store.specs.Contents.{Contents, IsListing, StorePlace, place_cmp, stored_pending}
use Rattle.cs_store.specs.Whole.{AtTable, StoresChange}
use Rattle.cs_opening.specs.Steps.{AreListed}

place_total : IsTotalOrder place_cmp
place_total = then_total (on_total (λ (p : StorePlace). p.0) int_cmp_total) (on_total (λ (p : StorePlace). p.1) nat_list_cmp_total)

place_exact : IsAntisymmetric place_cmp
place_exact = exact_pairs int_cmp (slice_cmp nat_cmp) exact_signed exact_bytes

abbrev Entries : Type 0
Entries = List (StorePlace × List ℕ)

-- ---- tests

both : (a b : Bool) → T a → T b → T (a && b)
both true b p q = q
both false b p q = p

first : (a b : Bool) → T (a && b) → T a
first true b h = tt
first false b h = absurd h

second : (a b : Bool) → T (a && b) → T b
second true b h = h
second false b h = absurd h

one_number : (n : ℕ) → int_cmp (pos n) (pos n) ≡ Equal
one_number n = sym (int_cmp_is (pos n) (pos n) Equal refl)

-- places under one number are told by their keys
by_keys : (n : ℕ) (k l : List ℕ) → place_cmp (pos n, k) (pos n, l) ≡ by_bytes k l
by_keys n k l = ap (λ (o : Ordering). ordering_then o (by_bytes k l)) (one_number n)

before_later : (n m : ℕ) (k l : List ℕ) → n < m → place_cmp (pos n, k) (pos m, l) ≡ Less
before_later n m k l less =
    let o : Less ≡ int_cmp (pos n) (pos m) = int_cmp_is (pos n) (pos m) Less (omega (arith, ints, less)) in
    ap (λ (r : Ordering). ordering_then r (by_bytes k l)) (sym o)

other_number : (z : ℤ) (n : ℕ) (k l : List ℕ) → (z ≡ pos n → ⊥) → eq_by_cmp place_cmp (z, k) (pos n, l) ≡ false
other_number z n k l apart =
    by_test (eq_by_cmp place_cmp (z, k) (pos n, l)) _
    (λ t. absurd (apart (ap (λ (p : StorePlace). p.0) (place_exact (z, k) (pos n, l) ((Equal-is (place_cmp (z, k) (pos n, l))).0 t)))))
    (λ t. t)

-- ---- lists of entries, one behind another

abbrev or_else : Option (List ℕ) → Option (List ℕ) → Option (List ℕ)
or_else None other = other
or_else (Some body) other = Some body

find_both : (q : StorePlace) (some others : Entries) → find place_cmp q (some ++ others) ≡ or_else (find place_cmp q some) (find place_cmp q others)
find_both q [] others = refl
find_both q (e ∷ some) others =
    by_test (eq_by_cmp place_cmp q e.0) _ (λ t. simp t refl) (λ t. simp t (find_both q some others))

below_both : (x : StorePlace) (some others : Entries) → T (below_all place_cmp x some) → T (below_all place_cmp x others) → T (below_all place_cmp x (some ++ others))
below_both x [] others s o = o
below_both x (e ∷ some) others s o = both _ _ (first _ _ s) (below_both x some others (second _ _ s) o)

-- each entry comes before those
abbrev AreBefore : Entries → Entries → Type 0
AreBefore some others = AllByRecursion (λ (e : StorePlace × List ℕ). T (below_all place_cmp e.0 others)) some

sorted_both : (some others : Entries) → T (is_sorted place_cmp some) → T (is_sorted place_cmp others) → AreBefore some others → T (is_sorted place_cmp (some ++ others))
sorted_both [] others s o before = o
sorted_both (e ∷ some) others s o before =
    both _ _ (below_both e.0 some others (first _ _ s) before.0) (sorted_both some others (second _ _ s) o before.1)

-- ---- the listing of one table, at its places

abbrev Rows : Type 0
Rows = List (List ℕ × List ℕ)

abbrev placed : ℕ → Rows → Entries
placed number rows = map (λ (row : List ℕ × List ℕ). ((pos number, row.0), row.1)) rows

below_placed : (n : ℕ) (k : List ℕ) (rows : Rows) → T (below_all by_bytes k rows) → T (below_all place_cmp (pos n, k) (placed n rows))
below_placed n k [] h = tt
below_placed n k (row ∷ rows) h =
    both _ _ (subst (λ (o : Ordering). T (is_lt o)) (sym (by_keys n k row.0)) (first _ _ h)) (below_placed n k rows (second _ _ h))

sorted_placed : (n : ℕ) (rows : Rows) → T (is_sorted by_bytes rows) → T (is_sorted place_cmp (placed n rows))
sorted_placed n [] h = tt
sorted_placed n (row ∷ rows) h = both _ _ (below_placed n row.0 rows (first _ _ h)) (sorted_placed n rows (second _ _ h))

find_placed : (n : ℕ) (k : List ℕ) (rows : Rows) → find place_cmp (pos n, k) (placed n rows) ≡ find by_bytes k rows
find_placed n k [] = refl
find_placed n k (row ∷ rows) =
    ap₂ (λ (o : Ordering) (rest : Option (List ℕ)). cond (is_eq o) (Some row.1) rest) (by_keys n k row.0) (find_placed n k rows)

find_elsewhere : (z : ℤ) (n : ℕ) (k : List ℕ) (rows : Rows) → (z ≡ pos n → ⊥) → find place_cmp (z, k) (placed n rows) ≡ None
find_elsewhere z n k [] apart = refl
find_elsewhere z n k (row ∷ rows) apart =
    ap (λ (b : Bool). cond b (Some row.1) (find place_cmp (z, k) (placed n rows))) (other_number z n k row.0 apart) ∙ find_elsewhere z n k rows apart

long_placed : (n : ℕ) (rows : Rows) → length (placed n rows) ≡ length rows
long_placed n [] = refl
long_placed n (row ∷ rows) = let more = long_placed n rows in omega (arith, more)

-- ---- those of tables

-- an entry under the number of a table from this one on
abbrev IsFrom : ℕ → (StorePlace × List ℕ) → Type 0
IsFrom number e = (m : ℕ) × (e.0.0 ≡ pos m) × (number ≤ m)

below_later : (n : ℕ) (k : List ℕ) (others : Entries) → AllByRecursion (IsFrom (n + 1)) others → T (below_all place_cmp (pos n, k) others)
below_later n k [] from = tt
below_later n k (e ∷ others) from =
    let less : place_cmp (pos n, k) e.0 ≡ Less = ap (λ (z : ℤ). place_cmp (pos n, k) (z, e.0.1)) from.0.1 ∙ before_later n from.0.0 k e.0.1 (omega (arith, from.0.2)) in
    both _ _ (subst (λ (o : Ordering). T (is_lt o)) (sym less) tt) (below_later n k others from.1)

all_before : (n : ℕ) (rows : Rows) (others : Entries) → AllByRecursion (IsFrom (n + 1)) others → AreBefore (placed n rows) others
all_before n [] others from = tt
all_before n (row ∷ rows) others from = (below_later n row.0 others from, all_before n rows others from)

from_placed : (n : ℕ) (rows : Rows) (others : Entries) → AllByRecursion (IsFrom (n + 1)) others → AllByRecursion (IsFrom n) (placed n rows ++ others)
from_placed n (row ∷ rows) others from = ((n, refl, omega arith), from_placed n rows others from)
from_placed n [] [] from = tt
from_placed n [] (e ∷ others) from = ((from.0.0, from.0.1, omega (arith, from.0.2)), from_placed n [] others from.1)

module _ (contents : Contents) where
  -- the entries at the places of tables, of which the first has this number
  record AreEntries (number : ℕ) (tables : List TableDef) (count : ℕ) : Type 0 where
    pub all : Entries
    pub long : length all ≡ count
    pub rises : T (is_sorted place_cmp all)
    pub from : AllByRecursion (IsFrom number) all
    pub here : (n : ℕ) (key : List ℕ) → number ≤ n → n < number + length tables → find place_cmp (pos n, key) all ≡ stored_pending contents n key
    pub elsewhere : (z : ℤ) (key : List ℕ) → ((n : ℕ) → z ≡ pos n → number ≤ n → n < number + length tables → ⊥) → find place_cmp (z, key) all ≡ None

  add_table : (number : ℕ) (table : TableDef) (tables : List TableDef) (rows : Rows) (others : ℕ) → IsListing (stored_pending contents number) rows → AreEntries (number + 1) tables others → AreEntries number (table ∷ tables) (length rows + others)
  add_table number table tables rows others listing more = record {
    all = placed number rows ++ more.all;
    long = length-append (placed number rows) more.all ∙ ap₂ (λ (a b : ℕ). a + b) (long_placed number rows) more.long;
    rises = sorted_both (placed number rows) more.all (sorted_placed number rows listing.rises) more.rises (all_before number rows more.all more.from);
    from = from_placed number rows more.all more.from;
    here = λ n key from within. elim (eqb_tells n number) [
      | inl is ↦ here_first n key is.1
      | inr not ↦ let apart = not.1 in here_later n key (omega (arith, from, apart)) within
    ];
    elsewhere = λ z key never.
        find_both (z, key) (placed number rows) more.all
        ∙ ap (λ (o : Option (List ℕ)). or_else o (find place_cmp (z, key) more.all)) (find_elsewhere z number key rows (λ e. never number e (omega arith) (omega arith)))
        ∙ more.elsewhere z key (λ n e from within. never n e (omega (arith, from)) (omega (arith, within)));
  }
    where
      or_none : (o : Option (List ℕ)) → or_else o None ≡ o
      or_none None = refl
      or_none (Some body) = refl

      here_first : (n : ℕ) (key : List ℕ) → n ≡ number → find place_cmp (pos n, key) (placed number rows ++ more.all) ≡ stored_pending contents n key
      here_first n key is =
          subst (λ (m : ℕ). find place_cmp (pos m, key) (placed number rows ++ more.all) ≡ stored_pending contents m key) (sym is)
          (find_both (pos number, key) (placed number rows) more.all
          ∙ ap₂ (λ (a b : Option (List ℕ)). or_else a b) (find_placed number key rows ∙ listing.found key)
          (more.elsewhere (pos number) key (λ m e from within. let same : number ≡ m = (let f = e in cc) in omega (arith, from, same)))
          ∙ or_none (stored_pending contents number key))

      here_later : (n : ℕ) (key : List ℕ) → number + 1 ≤ n → n < number + length (table ∷ tables) → find place_cmp (pos n, key) (placed number rows ++ more.all) ≡ stored_pending contents n key
      here_later n key from within =
          find_both (pos n, key) (placed number rows) more.all
          ∙ ap (λ (o : Option (List ℕ)). or_else o (find place_cmp (pos n, key) more.all)) (find_elsewhere (pos n) number key rows (λ e. let same : n ≡ number = (let f = e in cc) in omega (arith, from, same)))
          ∙ more.here n key from (omega (arith, within))

  are_entries : (tables : List TableDef) (number count : ℕ) → AreListed contents number tables count → AreEntries number tables count
  are_entries [] number count none = record {
    all = [];
    long = sym none;
    rises = tt;
    from = tt;
    here = λ n key from within. absurd (omega (arith, from, within));
    elsewhere = λ z key never. refl;
  }
  are_entries (table ∷ tables) number count (rows, others, listing, is, rest) =
      subst (AreEntries number (table ∷ tables)) (sym is) (add_table number table tables rows others listing (are_entries tables (number + 1) others rest))

  none_at : (o : Option (List ℕ)) → ((body : List ℕ) → o ≡ Some body → ⊥) → None ≡ o
  none_at None never = refl
  none_at (Some body) never = absurd (never body refl)

  -- as many are pending as are listed of all tables, where none is pending elsewhere
  pub all_counted : (tables : List TableDef) (count : ℕ) → ((place : StorePlace) (body : List ℕ) → get contents.pending place ≡ Some body → AtTable StoresChange tables place body) → AreListed contents 0 tables count → count ≡ len contents.pending
  all_counted tables count within listed =
      let es = are_entries tables 0 count listed in
      let found : (place : StorePlace) → find place_cmp place (entries contents.pending) ≡ find place_cmp place es.all = λ place. sym (get-entries contents.pending place) ∙ there es place.0 place.1 in
      let same : entries contents.pending ≡ es.all = same_entries place_cmp place_total place_exact (entries contents.pending) es.all (entries_sorted contents.pending) es.rises found in
      sym (len-entries contents.pending ∙ ap length same ∙ es.long)
    where
      nowhere : (es : AreEntries 0 tables count) (z : ℤ) (key : List ℕ) → ((n : ℕ) → z ≡ pos n → n < length tables → ⊥) → get contents.pending (z, key) ≡ find place_cmp (z, key) es.all
      nowhere es z key never =
          sym (es.elsewhere z key (λ n e from less. never n e (omega (arith, less)))
          ∙ none_at (get contents.pending (z, key)) (λ body e. let at = within (z, key) body e in never at.0 at.2 (slice_get_within tables at.0 at.1 at.3)))

      there : (es : AreEntries 0 tables count) (z : ℤ) (key : List ℕ) → get contents.pending (z, key) ≡ find place_cmp (z, key) es.all
      there es (pos n) key =
          elim (slice_get_cases tables n).1 [
            | inl found ↦ sym (es.here n key (omega arith) (omega (arith, found.1)))
            | inr out ↦ nowhere es (pos n) key (λ m e less. let same : n ≡ m = (let f = e in cc) in omega (arith, less, same, out.0))
          ]
      there es (negsuc n) key = nowhere es (negsuc n) key (λ m e less. absurd (let no = e in cc))
