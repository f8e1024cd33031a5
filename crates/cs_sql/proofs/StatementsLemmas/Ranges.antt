-- What a range of the log shows.
use Rattle.std.proofs.Common.{◌≡◌, inl, inr, ℕ, zero, suc, ◌+◌, ◌<◌, ◌≤◌, ℤ, pos, negsuc, List, [], ◌∷◌, map, Bool, true, false, not, ◌&&◌, cond, Option, Some, None, refl, sym, ap, subst, ◌∙◌, arith, get_or}
use Rattle.std.specs.declared.cmp.Ordering.{Ordering}
use Rattle.std.specs.declared.cmp.Ordering.TheVariants.{Less, Equal, Greater}
use Rattle.std.specs.Ordering.{is_eq, is_lt, is_ge, eq_by_cmp, int_cmp, ordering_then}
use Rattle.std.specs.Cmp.{eq_by_cmp_equiv}
use Rattle.std.specs.List.{AllByRecursion, filter}
use Rattle.std.specs.List.Sorted.{IsPermutation, IsSorted}
use Rattle.std.specs.FinMap.{find, get, from_entries, get-from_entries}
use Rattle.std.proofs.lemmas.Bool.{cases_Bool}
use Rattle.std.proofs.lemmas.Cmp.{int_cmp_total}
use Rattle.std.proofs.lemmas.Map.Lookups.{exact_signed}
use Rattle.std.proofs.lemmas.List.Sorted.{IsPermutation-map}
use Rattle.cs_order.specs.Facts.{equal_from}
use Rattle.sqlite.specs.Order.{Row, column}
use Rattle.sqlite.specs.Query.{Output, output_cmp}
use Rattle.sqlite.specs.Ops.{binary, is_true, from_truth}
use Rattle.sqlite.specs.State.{State, Shown}
use Rattle.sqlite.proofs.Callers.{reads_as}
use Rattle.sqlite.specs.Collation.TheVariants.{Binary}
use Rattle.sqlite_rules.specs.Edit.{id_in}
use Rattle.sqlite_rules.proofs.ListLemmas.{all_has, all_from, has_filtered}
use Rattle.sqlite_sql.specs.declared.ops.BinaryOp.TheVariants.{Compare}
use Rattle.sqlite_sql.specs.declared.ops.CompareOp.TheVariants.{Ge, Lt}
use Rattle.sqlite_value.specs.declared.value.Value.TheVariants.{Null, Int}
use Rattle.sqlite_value.specs.Order.{value_cmp}
use Rattle.sqlite_value.proofs.OrderLemmas.{value_cmp-Int}
use Rattle.cs_store.specs.Contents.{Contents, LogItem, entry_before, log_entry, log_range}
use Rattle.cs_sql.specs.schema.Schemas.{store_schema}
use Rattle.cs_sql.specs.statements.Tables.{IsKept, IsLog, IsMapped, contents_in, entry_pair, list_log_text, same_key}
use Rattle.cs_sql.specs.statements.Steps.{is_shown_at, item_read, items_read}
use Rattle.cs_sql.proofs.StatementsLemmas.Meanings.{entries_in, in_range, listed_terms, list_log_is, list_log_plain, rising_by}
use Rattle.cs_sql.proofs.StatementsLemmas.Answers.{passes_on, given, ordered_is}
use Rattle.cs_sql.proofs.StatementsLemmas.Apart.{all_filter, apart_filter}
use Rattle.cs_sql.proofs.StatementsLemmas.Orders.{Ascend, DontFall, all_map, all_permutation, apart_map, apart_permutation, ascends, find_permutation, pos_at_least, pos_less, rises, tied}

-- ---- versions

-- the number is one of so many from the first on
abbrev InRange : ℕ → ℕ → ℤ → Type 0
InRange first count version = (k : ℕ) × (version ≡ pos k) × (first ≤ k) × (k < first + count)

not_tied : (a b : ℕ) → a < b → eq_by_cmp int_cmp (pos a) (pos b) ≡ false
not_tied a b less = elim (cases_Bool (eq_by_cmp int_cmp (pos a) (pos b))) [
  | inl same ↦ absurd (let is : pos a ≡ pos b = exact_signed (pos a) (pos b) (equal_from _ same) in let n : a ≡ b = cc in omega (arith, n, less))
  | inr apart ↦ apart
]

-- a key that is above one of the range is of the range from the next on
above : (e f : ℤ × LogItem) (next count : ℕ) → e.0 ≡ pos next → int_cmp e.0 f.0 ≡ Less → InRange next (suc count) f.0 → InRange (next + 1) count f.0
above e f next count is less range =
    let below : next < range.0 = pos_less next range.0 ((λ i. int_cmp (sym is i) (sym range.1 i)) ∙ less) in let high = range.3 in (range.0, range.1, omega (arith, below), omega (arith, high))

all_above : (e : ℤ × LogItem) (es : List (ℤ × LogItem)) (next count : ℕ) → e.0 ≡ pos next → AllByRecursion (λ (f : ℤ × LogItem). int_cmp e.0 f.0 ≡ Less) es → AllByRecursion (λ (f : ℤ × LogItem). InRange next (suc count) f.0) es
    → AllByRecursion (λ (f : ℤ × LogItem). InRange (next + 1) count f.0) es
all_above e [] next count is less range = tt
all_above e (f ∷ es) next count is less range = (above e f next count is less.0 range.0, all_above e es next count is less.1 range.1)

none_found : (k : ℤ) (es : List (ℤ × LogItem)) → AllByRecursion (λ (f : ℤ × LogItem). eq_by_cmp int_cmp k f.0 ≡ false) es → find int_cmp k es ≡ None
none_found k [] all = refl
none_found k (f ∷ es) all = rw all.0 (none_found k es all.1)

-- keys above one that isn't below the next, are none of them the next
all_off : (e : ℤ × LogItem) (es : List (ℤ × LogItem)) (next count : ℕ) → InRange next count e.0 → AllByRecursion (λ (f : ℤ × LogItem). int_cmp e.0 f.0 ≡ Less) es → AllByRecursion (λ (f : ℤ × LogItem). InRange next count f.0) es
    → AllByRecursion (λ (f : ℤ × LogItem). eq_by_cmp int_cmp (pos next) f.0 ≡ false) es
all_off e [] next count here less range = tt
all_off e (f ∷ es) next count here less range =
    let r = range.0 in
    let below : here.0 < r.0 = pos_less here.0 r.0 ((λ i. int_cmp (sym here.1 i) (sym r.1 i)) ∙ less.0) in
    let low = here.2 in
    (subst (λ (z : ℤ). eq_by_cmp int_cmp (pos next) z ≡ false) (sym r.1) (not_tied next r.0 (omega (arith, below, low))), all_off e es next count here less.1 range.1)

-- the entries of pairs in turn
abbrev items_at : ℕ → List (ℤ × LogItem) → List LogItem
items_at next [] = []
items_at next (e ∷ es) = cond (is_eq (int_cmp e.0 (pos next))) (e.1 ∷ items_at (next + 1) es) []

ranged : (contents : Contents) (count next : ℕ) (es : List (ℤ × LogItem)) → Ascend int_cmp_total exact_signed es → AllByRecursion (λ (e : ℤ × LogItem). InRange next count e.0) es
    → ((k : ℕ) → next ≤ k → k < next + count → find int_cmp (pos k) es ≡ log_entry contents k) → items_at next es ≡ log_range contents next count
ranged contents zero next [] rise within found = refl
ranged contents zero next (e ∷ es) rise within found = let low = within.0.2 in let high = within.0.3 in absurd (omega (arith, low, high))
ranged contents (suc count) next [] rise within found = ap (λ (o : Option LogItem). entry_before o (log_range contents (next + 1) count)) (found next (omega arith) (omega arith))
ranged contents (suc count) next (e ∷ es) rise within found = elim (cases_Bool (is_eq (int_cmp e.0 (pos next)))) [
  | inl here ↦
      let is : e.0 ≡ pos next = exact_signed e.0 (pos next) (equal_from _ here) in
      let tie : eq_by_cmp int_cmp (pos next) e.0 ≡ true = (eq_by_cmp_equiv int_cmp_total).symm (pos next) e.0 ∙ here in
      let some : Some e.1 ≡ log_entry contents next = (rw tie at (found next (omega arith) (omega arith))) in
      let rest = ranged contents count (next + 1) es rise.1 (all_above e es next count is rise.0 within.1) (λ k low high.
      let off : eq_by_cmp int_cmp (pos k) e.0 ≡ false = (eq_by_cmp_equiv int_cmp_total).symm (pos k) e.0 ∙ subst (λ (z : ℤ). eq_by_cmp int_cmp z (pos k) ≡ false) (sym is) (not_tied next k (omega (arith, low))) in
      (rw off at (found k (omega (arith, low)) (omega (arith, high))))) in
      rw here (ap (λ (items : List LogItem). e.1 ∷ items) rest ∙ ap (λ (o : Option LogItem). entry_before o (log_range contents (next + 1) count)) some)
  | inr other ↦
      let off : eq_by_cmp int_cmp (pos next) e.0 ≡ false = (eq_by_cmp_equiv int_cmp_total).symm (pos next) e.0 ∙ other in
      let none : find int_cmp (pos next) (e ∷ es) ≡ None = none_found (pos next) (e ∷ es) (off, all_off e es next (suc count) within.0 rise.0 within.1) in
      rw other (ap (λ (o : Option LogItem). entry_before o (log_range contents (next + 1) count)) (sym none ∙ found next (omega arith) (omega arith)))
]

-- ---- the rows that pass

truth_is : (b : Bool) → is_true (from_truth (Some b)) ≡ b
truth_is true = refl
truth_is false = refl

ge_int : (a b : ℤ) → is_true (binary (Compare Ge Binary) (Int a) (Int b)) ≡ is_ge (int_cmp a b)
unfolding binary
ge_int a b = truth_is _ ∙ ap is_ge (value_cmp-Int a b)

lt_int : (a b : ℤ) → is_true (binary (Compare Lt Binary) (Int a) (Int b)) ≡ is_lt (int_cmp a b)
unfolding binary
lt_int a b = truth_is _ ∙ ap is_lt (value_cmp-Int a b)

and_true : (b : Bool) → (b && true) ≡ b
and_true true = refl
and_true false = refl

both_true : (a b : Bool) → (a && b) ≡ true → (a ≡ true) × (b ≡ true)
both_true true b e = (refl, e)
both_true false b e = absurd cc

ge_not_less : (o : Ordering) → is_ge o ≡ not (is_lt o)
ge_not_less Less = refl
ge_not_less Equal = refl
ge_not_less Greater = refl

not_so : (b : Bool) → not b ≡ true → b ≡ false
not_so true h = absurd cc
not_so false h = refl

less_so : (o : Ordering) → is_lt o ≡ true → o ≡ Less
less_so Less h = refl
less_so Equal h = absurd cc
less_so Greater h = absurd cc

abbrev range_params : ℕ → ℕ → Row
range_params first count = Int (pos first) ∷ Int (pos (first + count)) ∷ []

abbrev passes_range : ℕ → ℕ → Row → Bool
passes_range first count = passes_on in_range (range_params first count)

range_passes : (first count : ℕ) (r : Row) → IsLog r → passes_range first count r ≡ (is_ge (int_cmp (entry_pair r).0 (pos first)) && is_lt (int_cmp (entry_pair r).0 (pos (first + count))))
range_passes first count r it = rw it.4 (
    ap (λ b. b && (is_true (binary (Compare Lt Binary) (Int it.0) (Int (pos (first + count)))) && true)) (ge_int it.0 (pos first))
    ∙ ap (λ b. is_ge (int_cmp it.0 (pos first)) && b) (ap (λ b. b && true) (lt_int it.0 (pos (first + count))) ∙ and_true _))

within_range : (first count : ℕ) (id : ℤ) → (is_ge (int_cmp id (pos first)) && is_lt (int_cmp id (pos (first + count)))) ≡ true → InRange first count id
within_range first count (pos k) e =
    let both = both_true (is_ge (int_cmp (pos k) (pos first))) (is_lt (int_cmp (pos k) (pos (first + count)))) e in
    (k, refl, pos_at_least k first (not_so _ (sym (ge_not_less _) ∙ both.0)), pos_less k (first + count) (less_so _ both.1))
within_range first count (negsuc n) e = absurd cc

-- numbers compare as they do
less_cmp : (a b : ℕ) → a < b → is_lt (int_cmp (pos a) (pos b)) ≡ true
less_cmp a b less = elim (cases_Bool (is_lt (int_cmp (pos a) (pos b)))) [ inl is ↦ is | inr isnt ↦ absurd (let high = pos_at_least a b isnt in omega (arith, less, high)) ]

not_less_cmp : (a b : ℕ) → b ≤ a → is_lt (int_cmp (pos a) (pos b)) ≡ false
not_less_cmp a b most = elim (cases_Bool (is_lt (int_cmp (pos a) (pos b)))) [ inl is ↦ absurd (let low = pos_less a b (less_so _ is) in omega (arith, most, low)) | inr isnt ↦ isnt ]

range_within : (first count k : ℕ) (id : ℤ) → id ≡ pos k → first ≤ k → k < first + count → (is_ge (int_cmp id (pos first)) && is_lt (int_cmp id (pos (first + count)))) ≡ true
range_within first count k id is low high =
    subst (λ (z : ℤ). (is_ge (int_cmp z (pos first)) && is_lt (int_cmp z (pos (first + count)))) ≡ true) (sym is)
    (ap (λ b. b && is_lt (int_cmp (pos k) (pos (first + count)))) (ge_not_less _ ∙ ap not (not_less_cmp k first low)) ∙ less_cmp k (first + count) high)

find_in : (first count k : ℕ) (es : List Row) → first ≤ k → k < first + count → AllByRecursion IsLog es → find int_cmp (pos k) (map entry_pair (filter (passes_range first count) es)) ≡ find int_cmp (pos k) (map entry_pair es)
find_in first count k [] low high typed = refl
find_in first count k (r ∷ es) low high typed = elim (cases_Bool (passes_range first count r)) [
  | inl here ↦ rw (here, find_in first count k es low high typed.1) refl
  | inr other ↦
      let off : eq_by_cmp int_cmp (pos k) (entry_pair r).0 ≡ false = elim (cases_Bool (eq_by_cmp int_cmp (pos k) (entry_pair r).0)) [
        | inl same ↦ absurd (
            let is : pos k ≡ (entry_pair r).0 = exact_signed (pos k) (entry_pair r).0 (equal_from _ same) in
            let yes : true ≡ false = sym (range_passes first count r typed.0 ∙ range_within first count k (entry_pair r).0 (sym is) low high) ∙ other in cc)
        | inr apart ↦ apart
      ] in
      rw (other, off) (find_in first count k es low high typed.1)
]

-- ---- the answer, in order

-- an entry, as an answer shows it
abbrev row_entry : Row → ℤ × LogItem
row_entry row = (id_in (column row 3), item_read row)

abbrev entry : Output → ℤ × LogItem
entry o = row_entry o.1

-- what it is sorted by is its version
abbrev IsKeyed : Output → Type 0
IsKeyed o = (column o.0 0 ≡ Int (entry o).0) × (column o.1 3 ≡ Int (entry o).0)

first_not_less : (o : Ordering) → is_lt (ordering_then o Equal) ≡ false → is_lt o ≡ false
first_not_less Less h = h
first_not_less Equal h = refl
first_not_less Greater h = h

dont_fall : (os : List Output) → AllByRecursion IsKeyed os → IsSorted (output_cmp entries_in) os → DontFall int_cmp_total exact_signed (map entry os)
dont_fall [] all h = tt
dont_fall (x ∷ []) all h = tt
dont_fall (x ∷ y ∷ os) all h = (
  first_not_less _ (ap (λ o. is_lt (ordering_then o Equal)) (sym (value_cmp-Int (entry y).0 (entry x).0) ∙ (λ i. value_cmp (sym all.1.0.0 i) (sym all.0.0 i))) ∙ h 0 x (omega arith) (omega arith)),
  dont_fall (y ∷ os) all.1 (λ k d a b.
      let n : suc k + 1 ≡ suc (k + 1) = omega arith in
      ap (λ j. is_lt (output_cmp entries_in (get_or (x ∷ y ∷ os) j d) (get_or (y ∷ os) k d))) (sym n) ∙ h (suc k) d (omega arith) (omega (arith, b))),
)

map_twice : {A B C : Type 0} (f : B → C) (g : A → B) (xs : List A) → map f (map g xs) ≡ map (λ x. f (g x)) xs
map_twice f g [] = refl
map_twice f g (x ∷ xs) = ap (λ ys. f (g x) ∷ ys) (map_twice f g xs)

items_are : (next : ℕ) (os : List Output) → AllByRecursion IsKeyed os → items_read next (map (λ (o : Output). o.1) os) ≡ items_at next (map entry os)
items_are next [] all = refl
items_are next (o ∷ os) all =
    let tie : is_shown_at next o.1 ≡ is_eq (int_cmp (entry o).0 (pos next)) = (λ i. is_eq (value_cmp (all.0.1 i) (Int (pos next)))) ∙ ap is_eq (value_cmp-Int (entry o).0 (pos next)) in
    (λ i. cond (tie i) (item_read o.1 ∷ items_are (next + 1) os all.1 i) [])

module _ (es : List Row) (m : IsMapped int_cmp entry_pair IsLog es) (contents : Contents) (log_is : contents.log ≡ from_entries (map entry_pair es)) (first count : ℕ) (ordered : List Output) (rows : List Row)
    (same : IsPermutation (map (given entries_in (range_params first count)) (filter (passes_range first count) es)) ordered)
    (sorted : IsSorted (output_cmp entries_in) ordered) (shows : rows ≡ map (λ (o : Output). o.1) ordered) where
  ranges : items_read first rows ≡ log_range contents first count
  ranges =
      let p = passes_range first count in
      let these = filter p es in
      let show = given entries_in (range_params first count) in
      let typed : AllByRecursion IsLog these = all_filter IsLog p es m.typed in
      let moved : IsPermutation (map entry_pair these) (map entry ordered) = subst (λ xs. IsPermutation xs (map entry ordered)) (map_twice entry show these) (IsPermutation-map entry (map show these) ordered same) in
      let apart = apart_map (tied int_cmp_total exact_signed) entry_pair these (apart_filter (same_key int_cmp entry_pair) p es m.keys_apart) in
      let keyed : AllByRecursion IsKeyed ordered = all_permutation IsKeyed (map show these) ordered same (keyed_all these typed) in
      let level = dont_fall ordered keyed sorted in
      let rise = ascends int_cmp_total exact_signed (map entry ordered) (rises int_cmp_total exact_signed (map entry ordered) level
      (apart_permutation (tied int_cmp_total exact_signed) (λ a b. (eq_by_cmp_equiv int_cmp_total).symm a.0 b.0) (λ a. (eq_by_cmp_equiv int_cmp_total).refl a.0) (map entry_pair these) (map entry ordered) moved apart)) in
      let within : AllByRecursion (λ (e : ℤ × LogItem). InRange first count e.0) (map entry ordered) =
      all_permutation (λ (e : ℤ × LogItem). InRange first count e.0) (map entry_pair these) (map entry ordered) moved (all_map (λ (e : ℤ × LogItem). InRange first count e.0) entry_pair these (all_from _ these (λ r h.
      let f = has_filtered p es r h in within_range first count (entry_pair r).0 (sym (range_passes first count r (all_has IsLog es r m.typed f.0)) ∙ f.1)))) in
      let found = λ (k : ℕ) (low : first ≤ k) (high : k < first + count).
      find_permutation int_cmp_total exact_signed (map entry_pair these) (map entry ordered) moved apart (pos k) ∙ find_in first count k es low high m.typed
      ∙ sym (get-from_entries int_cmp_total (map entry_pair es) (pos k)) ∙ sym (ap (λ log. get log (pos k)) log_is) in
      ap (items_read first) shows ∙ items_are first ordered keyed ∙ ranged contents count first (map entry ordered) rise within found
    where
      keyed_all : (rs : List Row) → AllByRecursion IsLog rs → AllByRecursion IsKeyed (map (given entries_in (range_params first count)) rs)
      keyed_all [] all = tt
      keyed_all (r ∷ rs) all = (rw all.0.4 (refl, refl), keyed_all rs all.1)

pub lists_log : (old new : State) → IsKept old.now → (rows : List Row) (first count : ℕ) → Shown list_log_text (Int (pos first) ∷ Int (pos (first + count)) ∷ []) old new rows → items_read first rows ≡ log_range (contents_in old.now.trees) first count
lists_log old new has rows first count h =
    let a = reads_as list_log_text (range_params first count) old new store_schema has.schema _ list_log_is.0 list_log_plain list_log_is.1 rows h in
    let it = ordered_is 4 in_range listed_terms (rising_by 0) old.now.trees (range_params first count) rows (a.answer Null) in
    ranges (old.now.trees 4) has.log (contents_in old.now.trees) refl first count it.ordered rows it.same it.sorted it.shown_are
