-- What the tables of a file that was found hold.
use Rattle.std.specs.Prelude.{is_some, zero, suc, ◌↔◌, IsSome, MatchOption}
use Rattle.std.proofs.Common.{◌≡◌, ◌≢◌, inl, inr, ℕ, ◌+◌, ◌^◌, ◌<◌, ◌≤◌, ℤ, pos, List, [], ◌∷◌, length, drop, ◌++◌, length-append, map, Bool, true, false, not, ◌&&◌, ◌||◌, cond, Option, Some, None, IfSome, IsTrue, refl, sym, ap, subst, ◌∙◌, arith, get_or}
use Rattle.std.specs.declared.cmp.Ordering.{Ordering}
use Rattle.std.specs.declared.cmp.Ordering.TheVariants.{Less, Equal, Greater}
use Rattle.std.specs.Ordering.{is_eq, is_lt, is_ne, eq_by_cmp, int_cmp, ordering_then}
use Rattle.std.specs.Cmp.{eq_by_cmp_equiv}
use Rattle.std.specs.List.{AllByRecursion, filter, list_any}
use Rattle.std.specs.List.Sorted.{IsPermutation, IsSorted}
use Rattle.std.specs.FinMap.{find, get, len, from_entries, get-from_entries, contains_key, len-insert, len-empty}
use Rattle.std.proofs.lemmas.Bool.{cases_Bool, and_parts}
use Rattle.std.proofs.lemmas.Cmp.{int_cmp_total, nat_list_cmp_total, tied_itself}
use Rattle.std.proofs.lemmas.Map.Lookups.{exact_signed}
use Rattle.std.proofs.lemmas.List.{append_assoc, length-map}
use Rattle.std.proofs.lemmas.List.Sorted.{length_permutation, list_any-IsPermutation, IsPermutation-sym}
use Rattle.cs_order.specs.Facts.{equal_from}
use Rattle.sqlite.specs.Order.{Row, column}
use Rattle.sqlite.specs.Effect.{Database, IsDatabase}
use Rattle.sqlite.specs.Tree.{Trees, rowid}
use Rattle.sqlite.specs.State.{State, IsUnchanged}
use Rattle.sqlite.specs.Program.{overlay}
use Rattle.sqlite.specs.Query.{Output, output_cmp}
use Rattle.sqlite.specs.Schema.{Schema}
use Rattle.sqlite.specs.Ops.{binary, is_true, is_null, from_truth}
use Rattle.sqlite.proofs.Callers.{reads_as}
use Rattle.sqlite_rules.specs.Lists.{Has}
use Rattle.sqlite_rules.specs.Edit.{id_in}
use Rattle.sqlite_rules.proofs.ListLemmas.{all_has, all_from, some_from}
use Rattle.sqlite_schema.specs.Rules.{is_of, are_typed, are_present, agree, clashes, differ, Keeps}
use Rattle.sqlite_schema.specs.declared.schema.Kind.TheVariants as kind
use Rattle.sqlite_schema.specs.declared.schema.Constraint.TheVariants.{Datatype, NotNull, Unique}
use Rattle.sqlite_value.specs.Keys.{plain, first_key}
use Rattle.sqlite_value.specs.declared.value.Value.{Value}
use Rattle.sqlite_value.specs.declared.value.Value.TheVariants.{Null, Int, Real, Text as Words, Blob}
use Rattle.sqlite_value.specs.Order.{value_cmp}
use Rattle.sqlite_value.proofs.OrderLemmas.{value_cmp-Int, value_cmp_total}
use Rattle.cs_order.specs.Order.{by_bytes}
use Rattle.cs_store.specs.Contents.{Contents, Log, LogItem, place_cmp}
use Rattle.cs_sql.specs.declared.parts.Part.{Part}
use Rattle.cs_sql.specs.declared.parts.Part.TheVariants as part
use Rattle.cs_sql.specs.schema.Making.{tree_with}
use Rattle.cs_sql.specs.schema.Judged.{IsForeign}
use Rattle.cs_sql.specs.schema.Schemas.{no_schema, front_schema, store_schema, rows_table, meta_table, log_table}
use Rattle.cs_sql.specs.statements.Tables.{ids_text, IsRow, IsMeta, IsLog, IsMapped, IsKept, Apart, same_id, same_key, row_pair, value_pair, entry_pair, contents_in}
use Rattle.cs_sql.specs.declared.statements.counting.Ids.{Ids}
use Rattle.cs_sql.specs.declared.statements.counting.LogFound.{LogFound}
use Rattle.cs_sql.specs.declared.statements.looking.Found.TheVariants.{Foreign}
use Rattle.cs_sql.specs.statements.Steps.{Serves}
use Rattle.cs_sql.specs.statements.Found.{AreApart, AreCountable, AreEntries, AreNumbered, AreSeen, HasEachVersion, HasFront, IsCounted, IsFound, IsFrontKept, IsFrontOf, IsLogOf, IsStoreOf, IsUntouched, Rise, ShowsIds, ShowsLast, ShowsNumber, front_in, is_version}
use Rattle.cs_sql.proofs.StatementsLemmas.Meanings.{AsksIds, HasPart, ids_are, ids_in, one_column, rising_by}
use Rattle.cs_sql.proofs.StatementsLemmas.Answers.{place_total, shown, given, answer_is, ordered_is, passes_on, passes_is, name_passes}
use Rattle.cs_sql.proofs.StatementsLemmas.Apart.{find_none}
use Rattle.cs_sql.proofs.StatementsLemmas.Orders.{Level, apart_map, apart_permutation, apart_unmap, all_permutation, all_unmap, pos_less, rise_front, rise_level, rise_pair, rise_push}

-- ---- rowids

filter_none : (params : Row) (es : List Row) → filter (passes_on [] params) es ≡ es
filter_none params [] = refl
filter_none params (r ∷ es) = ap (λ rows. r ∷ rows) (filter_none params es)

abbrev tie_first : Row → Row → Bool
tie_first a b = is_eq (value_cmp (column a 0) (column b 0))

less_apart : (x : Row) (rows : List Row) → AllByRecursion (λ y. value_cmp (column x 0) (column y 0) ≡ Less) rows → AllByRecursion (λ y. tie_first x y ≡ false) rows
less_apart x [] all = tt
less_apart x (y ∷ rows) all = (ap is_eq all.0, less_apart x rows all.1)

rise_apart : (rows : List Row) → Rise rows → Apart tie_first rows
rise_apart [] r = tt
rise_apart (x ∷ rows) r = (less_apart x rows r.0, rise_apart rows r.1)

pub apart_from : (es rows : List Row) → IsPermutation (map (shown (one_column 0) []) (filter (passes_on [] []) es)) rows → AllByRecursion ShowsNumber rows → Rise rows → AreApart es
apart_from es rows same whole rise =
    let moved : IsPermutation (map (shown (one_column 0) []) es) rows = subst (λ xs. IsPermutation (map (shown (one_column 0) []) xs) rows) (filter_none [] es) same in
    let back = IsPermutation-sym (map (shown (one_column 0) []) es) rows moved in
    record {
      whole = all_unmap ShowsNumber (shown (one_column 0) []) es (all_permutation ShowsNumber rows (map (shown (one_column 0) []) es) back whole);
      apart = apart_unmap tie_first (shown (one_column 0) []) es (apart_permutation tie_first (λ a b. (eq_by_cmp_equiv value_cmp_total).symm (column a 0) (column b 0))
          (λ a. ap is_eq (tied_itself value_cmp_total (column a 0))) rows (map (shown (one_column 0) []) es) back (rise_apart rows rise));
    }

first_not_less : (o : Ordering) → is_lt (ordering_then o Equal) ≡ false → is_lt o ≡ false
first_not_less Less h = h
first_not_less Equal h = refl
first_not_less Greater h = h

-- what it is sorted by is what it shows
abbrev IsKeyed : Output → Type 0
IsKeyed o = (column o.0 0 ≡ column o.1 0)

-- no output is sorted before the one before it
level_of : (tree : ℕ) (os : List Output) → AllByRecursion IsKeyed os → IsSorted (output_cmp (ids_in tree)) os → Level (map (λ (o : Output). o.1) os)
level_of tree [] all h = tt
level_of tree (x ∷ []) all h = tt
level_of tree (x ∷ y ∷ os) all h = (
  first_not_less _ (ap (λ o. is_lt (ordering_then o Equal)) (λ i. value_cmp (sym all.1.0 i) (sym all.0 i)) ∙ h 0 x (omega arith) (omega arith)),
  level_of tree (y ∷ os) all.1 (λ k d a b.
      let n : suc k + 1 ≡ suc (k + 1) = omega arith in
      ap (λ j. is_lt (output_cmp (ids_in tree) (get_or (x ∷ y ∷ os) j d) (get_or (y ∷ os) k d))) (sym n) ∙ h (suc k) d (omega arith) (omega (arith, b))),
)

keyed_all : (tree : ℕ) (es : List Row) → AllByRecursion IsKeyed (map (given (ids_in tree) []) es)
keyed_all tree [] = tt
keyed_all tree (e ∷ es) = (refl, keyed_all tree es)

-- rowids that are apart are shown to rise
rise_shown : (tree : ℕ) (es rows : List Row) (ordered : List Output) → IsPermutation (map (given (ids_in tree) []) (filter (passes_on [] []) es)) ordered → IsSorted (output_cmp (ids_in tree)) ordered
    → rows ≡ map (λ (o : Output). o.1) ordered → IsPermutation (map (shown (one_column 0) []) (filter (passes_on [] []) es)) rows → Apart same_id es → Rise rows
rise_shown tree es rows ordered given_are sorted shown_are same apart =
    let keyed : AllByRecursion IsKeyed ordered = all_permutation IsKeyed (map (given (ids_in tree) []) (filter (passes_on [] []) es)) ordered given_are (keyed_all tree (filter (passes_on [] []) es)) in
    let moved : IsPermutation (map (shown (one_column 0) []) es) rows = subst (λ xs. IsPermutation (map (shown (one_column 0) []) xs) rows) (filter_none [] es) same in
    let ties : Apart tie_first rows = apart_permutation tie_first (λ a b. (eq_by_cmp_equiv value_cmp_total).symm (column a 0) (column b 0)) (λ a. ap is_eq (tied_itself value_cmp_total (column a 0)))
    (map (shown (one_column 0) []) es) rows moved (apart_map tie_first (shown (one_column 0) []) es apart) in
    rise_level rows (subst Level (sym shown_are) (level_of tree ordered keyed sorted)) ties

-- what is shown of rows that are numbered is numbered
all_shown : (es : List Row) → AllByRecursion ShowsNumber es → AllByRecursion ShowsNumber (map (shown (one_column 0) []) es)
all_shown [] all = tt
all_shown (e ∷ es) all = (all.0, all_shown es all.1)

module _ (schema : Schema) (p : Part) (asks : AsksIds schema p) (old new : State) (has : old.now.schema ≡ schema) (ids : Ids) (it : ShowsIds (ids_text p) old new ids) where
  abbrev tree : ℕ
  tree = tree_with p

  ids_same : IsPermutation (map (shown (one_column 0) []) (filter (passes_on [] []) (overlay old.now.trees [] tree))) it.rows
  ids_same = let a = reads_as (ids_text p) [] old new schema has _ asks.0 asks.2 asks.1 it.rows it.shown in answer_is tree [] (one_column 0) (rising_by 0) old.now.trees [] it.rows (a.answer Null)

  ids_apart : IsTrue ids.rise → AreApart (overlay old.now.trees [] tree)
  ids_apart rise = let are = it.are.rise.0 rise in apart_from (overlay old.now.trees [] tree) it.rows ids_same are.0 are.1

  ids_rise : AreApart (overlay old.now.trees [] tree) → IsTrue ids.rise
  ids_rise are =
      let es = overlay old.now.trees [] tree in
      let moved : IsPermutation (map (shown (one_column 0) []) es) it.rows = subst (λ xs. IsPermutation (map (shown (one_column 0) []) xs) it.rows) (filter_none [] es) ids_same in
      let whole : AllByRecursion ShowsNumber it.rows = all_permutation ShowsNumber (map (shown (one_column 0) []) es) it.rows moved (all_shown es are.whole) in
      let a = reads_as (ids_text p) [] old new schema has _ asks.0 asks.2 asks.1 it.rows it.shown in
      let o = ordered_is tree [] (one_column 0) (rising_by 0) old.now.trees [] it.rows (a.answer Null) in
      it.are.rise.1 (whole, rise_shown tree es it.rows o.ordered o.same o.sorted o.shown_are ids_same are.apart)

  ids_count : ids.count ≡ length (overlay old.now.trees [] tree)
  ids_count =
      let es = overlay old.now.trees [] tree in
      let moved : IsPermutation (map (shown (one_column 0) []) es) it.rows = subst (λ xs. IsPermutation (map (shown (one_column 0) []) xs) it.rows) (filter_none [] es) ids_same in
      it.are.count_is ∙ length_permutation (map (shown (one_column 0) []) es) it.rows moved ∙ length-map es _

-- ---- the versions of the log

version_tie : (r : Row) (from version : ℕ) → column r 0 ≡ Int (pos from) → is_version version r ≡ is_eq (int_cmp (pos from) (pos version))
version_tie r from version is = (λ i. is_eq (value_cmp (is i) (Int (pos version)))) ∙ ap is_eq (value_cmp-Int (pos from) (pos version))

is_at : (r : Row) (from version : ℕ) → column r 0 ≡ Int (pos from) → is_version version r ≡ true → from ≡ version
is_at r from version is tie = let same : pos from ≡ pos version = exact_signed (pos from) (pos version) (equal_from _ (sym (version_tie r from version is) ∙ tie)) in cc

at_own : (r : Row) (from : ℕ) → column r 0 ≡ Int (pos from) → is_version from r ≡ true
at_own r from is = version_tie r from from is ∙ (eq_by_cmp_equiv int_cmp_total).refl (pos from)

or_true : (a b : Bool) → b ≡ true → (a || b) ≡ true
or_true true b h = refl
or_true false b h = h

any_numbered : (from version : ℕ) (rows : List Row) → AreNumbered from rows → IsTrue (list_any (is_version version) rows) ↔ ((from ≤ version) × (version < from + length rows))
any_numbered from version [] are = (λ t. absurd cc, λ h. let low = h.0 in let high = h.1 in absurd (omega (arith, low, high)))
any_numbered from version (r ∷ rows) are =
    let rest = any_numbered (from + 1) version rows are.1 in
    elim (cases_Bool (is_version version r)) [
      | inl here ↦ let same : from ≡ version = is_at r from version are.0 here in (λ t. (omega (arith, same), omega (arith, same)), λ h. rw here refl)
      | inr other ↦ (
        λ t. let later = rest.0 (rw other at t) in let low = later.0 in let high = later.1 in (omega (arith, low), omega (arith, high)),
        λ h.
            let low = h.0 in
            let high = h.1 in
            let apart : from ≢ version = λ same. let own = at_own r from are.0 in let tie : is_version version r ≡ true = subst (λ (n : ℕ). is_version n r ≡ true) same own in let no : true ≡ false = sym tie ∙ other in absurd cc in
            or_true (is_version version r) (list_any (is_version version) rows) (rest.1 (omega (arith, low, apart), omega (arith, high))),
      )
    ]

numbered_push : (from : ℕ) (es : List Row) (row : Row) → AreNumbered from es → column row 0 ≡ Int (pos (from + length es)) → AreNumbered from (es ++ row ∷ [])
numbered_push from [] row are is = let same : from + 0 ≡ from = omega arith in (is ∙ ap (λ (n : ℕ). Int (pos n)) same, tt)
numbered_push from (e ∷ es) row are is =
    let same : from + length (e ∷ es) ≡ (from + 1) + length es = omega arith in (are.0, numbered_push (from + 1) es row are.1 (is ∙ ap (λ (n : ℕ). Int (pos n)) same))

numbered_front : (from : ℕ) (es : List Row) (row : Row) → AreNumbered from (es ++ row ∷ []) → AreNumbered from es × (column row 0 ≡ Int (pos (from + length es)))
numbered_front from [] row are = let same : from ≡ from + 0 = omega arith in (tt, are.0 ∙ ap (λ (n : ℕ). Int (pos n)) same)
numbered_front from (e ∷ es) row are =
    let rest = numbered_front (from + 1) es row are.1 in let same : (from + 1) + length es ≡ from + length (e ∷ es) = omega arith in ((are.0, rest.0), rest.1 ∙ ap (λ (n : ℕ). Int (pos n)) same)

-- the versions that rising rows show are numbered where each below their count is shown
version_id : (r : Row) (k : ℕ) → ShowsNumber r → is_version k r ≡ true → column r 0 ≡ Int (pos k)
version_id r k whole tie =
    let same : int_cmp whole.0 (pos k) ≡ Equal = sym (value_cmp-Int whole.0 (pos k)) ∙ (λ i. value_cmp (sym whole.1 i) (Int (pos k))) ∙ equal_from _ tie in whole.1 ∙ ap (λ (z : ℤ). Int z) (exact_signed whole.0 (pos k) same)

below_shown : (r : Row) (k : ℕ) (rows : List Row) → AllByRecursion ShowsNumber rows → AllByRecursion (λ other. value_cmp (column r 0) (column other 0) ≡ Less) rows → list_any (is_version k) rows ≡ true
    → value_cmp (column r 0) (Int (pos k)) ≡ Less
below_shown r k [] whole below there = absurd cc
below_shown r k (o ∷ rows) whole below there = elim (cases_Bool (is_version k o)) [
  | inl here ↦ subst (λ v. value_cmp (column r 0) v ≡ Less) (version_id o k whole.0 here) below.0
  | inr other ↦ below_shown r k rows whole.1 below.1 (rw other at there)
]

-- a row that shows a version stands below those after it
row_below : (r : Row) (at k : ℕ) (rows : List Row) → AllByRecursion ShowsNumber rows → AllByRecursion (λ other. value_cmp (column r 0) (column other 0) ≡ Less) rows → column r 0 ≡ Int (pos at) → list_any (is_version k) rows ≡ true → at < k
row_below r at k rows whole below is there =
    pos_less at k (sym (value_cmp-Int (pos at) (pos k)) ∙ (λ i. value_cmp (sym is i) (Int (pos k))) ∙ below_shown r k rows whole below there)

in_rest : (r : Row) (k : ℕ) (rows : List Row) → list_any (is_version k) (r ∷ rows) ≡ true → is_version k r ≡ false → list_any (is_version k) rows ≡ true
in_rest r k rows there other = rw other at there

-- the row isn't that of the version
not_row : (r : Row) (k : ℕ) → (is_version k r ≡ true → ⊥) → is_version k r ≡ false
not_row r k isnt = elim (cases_Bool (is_version k r)) [ inl here ↦ absurd (isnt here) | inr other ↦ other ]

abbrev HasEachFrom : ℕ → ℕ → List Row → Type 0
HasEachFrom from count rows = (version : ℕ) → from ≤ version → version < from + count → list_any (is_version version) rows ≡ true

fewer : (from count : ℕ) (rows : List Row) → AllByRecursion ShowsNumber rows → Rise rows → HasEachFrom from count rows → count ≤ length rows
fewer from zero rows whole rise each = omega arith
fewer from (suc count) [] whole rise each = absurd (let there = each from (omega arith) (omega arith) in cc)
fewer from (suc count) (r ∷ rows) whole rise each =
    let first = each from (omega arith) (omega arith) in
    let later : HasEachFrom (from + 1) count rows = λ version low high.
    in_rest r version rows (each version (omega (arith, low)) (omega (arith, high))) (not_row r version (λ here.
    let is = version_id r version whole.0 here in
    let apart : is_version from r ≡ false = not_row r from (λ same. let at : version ≡ from = is_at r version from is same in omega (arith, at, low)) in
    let less = row_below r version from rows whole.1 rise.0 is (in_rest r from rows first apart) in omega (arith, less, low))) in
    let rest = fewer (from + 1) count rows whole.1 rise.1 later in omega (arith, rest)

numbered_from : (from : ℕ) (rows : List Row) → AllByRecursion ShowsNumber rows → Rise rows → HasEachFrom from (length rows) rows → AreNumbered from rows
numbered_from from [] whole rise each = tt
numbered_from from (r ∷ rows) whole rise each =
    let first = each from (omega arith) (omega arith) in
    let here : is_version from r ≡ true = elim (cases_Bool (is_version from r)) [
      | inl here ↦ here
      | inr other ↦ absurd (
          let within = in_rest r from rows first other in
          let all : HasEachFrom from (length (r ∷ rows)) rows = λ version low high. in_rest r version rows (each version low high) (not_row r version (λ same.
          let less = row_below r version from rows whole.1 rise.0 (version_id r version whole.0 same) within in omega (arith, less, low))) in
          let count = fewer from (length (r ∷ rows)) rows whole.1 rise.1 all in omega (arith, count))
    ] in
    let is = version_id r from whole.0 here in (
      is,
      numbered_from (from + 1) rows whole.1 rise.1 (λ version low high. in_rest r version rows (each version (omega (arith, low)) (omega (arith, high))) (not_row r version (λ same.
          let at : from ≡ version = is_at r from version is same in omega (arith, at, low)))),
    )

numbered_each : (rows : List Row) → AllByRecursion ShowsNumber rows → Rise rows → AreNumbered 0 rows ↔ HasEachVersion rows
numbered_each rows whole rise = (
  λ are version less. (any_numbered 0 version rows are).1 (omega arith, omega (arith, less)),
  λ each. numbered_from 0 rows whole rise (λ version low high. each version (omega (arith, high))),
)

-- ---- one more rowid

more_whole : (es : List Row) (row : Row) → AllByRecursion ShowsNumber es → ShowsNumber row → AllByRecursion ShowsNumber (es ++ row ∷ [])
more_whole [] row all is = (is, tt)
more_whole (e ∷ es) row all is = (all.0, more_whole es row all.1 is)

both_true : (a b : Bool) → (a && b) ≡ true → (a ≡ true) × (b ≡ true)
both_true true b e = (refl, e)
both_true false b e = absurd cc

more_rise : (last : Option ℤ) (id : ℤ) (rows : List Row) (row : Row) → ShowsLast last rows → column row 0 ≡ Int id → IfSome last (λ (was : ℤ). int_cmp was id ≡ Less) → Rise rows → Rise (rows ++ row ∷ [])
more_rise None id rows row none is above rise = subst (λ (es : List Row). Rise (es ++ row ∷ [])) (sym none) (tt, tt)
more_rise (Some was) id rows row last is above rise =
    let less : value_cmp (column last.1 0) (column row 0) ≡ Less = (λ i. value_cmp (last.3 i) (is i)) ∙ value_cmp-Int was id ∙ above in
    let two : rows ++ row ∷ [] ≡ last.0 ++ last.1 ∷ row ∷ [] = ap (λ (es : List Row). es ++ row ∷ []) last.2 ∙ append_assoc last.0 (last.1 ∷ []) (row ∷ []) in
    subst Rise (sym two) (rise_push last.0 last.1 row less (subst Rise last.2 rise))

last_less : (last : Option ℤ) (id : ℤ) (rows : List Row) (row : Row) → ShowsLast last rows → column row 0 ≡ Int id → Rise (rows ++ row ∷ []) → IfSome last (λ (was : ℤ). int_cmp was id ≡ Less)
last_less None id rows row none is rise = tt
last_less (Some was) id rows row last is rise =
    let two : rows ++ row ∷ [] ≡ last.0 ++ last.1 ∷ row ∷ [] = ap (λ (es : List Row). es ++ row ∷ []) last.2 ∙ append_assoc last.0 (last.1 ∷ []) (row ∷ []) in
    sym (value_cmp-Int was id) ∙ (λ i. value_cmp (sym last.3 i) (sym is i)) ∙ rise_pair last.0 last.1 row (subst Rise two rise)

fewer_whole : (es : List Row) (row : Row) → AllByRecursion ShowsNumber (es ++ row ∷ []) → AllByRecursion ShowsNumber es
fewer_whole [] row all = tt
fewer_whole (e ∷ es) row all = (all.0, fewer_whole es row all.1)

last_whole : (es : List Row) (row : Row) → AllByRecursion ShowsNumber (es ++ row ∷ []) → ShowsNumber row
last_whole [] row all = all.0
last_whole (e ∷ es) row all = last_whole es row all.1

-- and with one more that isn't a number
pub other_seen : (ids more : Ids) → more.count ≡ ids.count + 1 → more.rise ≡ false → more.are_numbered ≡ false → (rows : List Row) (row : Row) → AreSeen ids rows → ¬ ShowsNumber row → AreSeen more (rows ++ row ∷ [])
other_seen ids more count rise are rows row seen isnt = record {
  count_is = let n = seen.count_is in let m = length-append rows (row ∷ []) in omega (arith, count, n, m);
  rise = (λ t. absurd (let e : true ≡ false = sym t ∙ rise in cc), λ all. absurd (isnt (last_whole rows row all.0)));
  last_is = λ t. absurd (let e : true ≡ false = sym t ∙ rise in cc);
  numbered = (λ t. absurd (let e : true ≡ false = sym t ∙ are in cc), λ all. absurd (isnt (pos (0 + length rows), (numbered_front 0 rows row all).1)));
}

-- what is told of rowids is so with one more
pub one_more_seen : (ids more : Ids) (id : ℤ) (is_above numbered : Bool) → more.count ≡ ids.count + 1 → more.last ≡ Some id → more.rise ≡ (ids.rise && is_above) → more.are_numbered ≡ (ids.are_numbered && numbered)
    → (IsTrue is_above ↔ IfSome ids.last (λ (was : ℤ). int_cmp was id ≡ Less)) → (IsTrue numbered ↔ (id ≡ pos ids.count))
    → (rows : List Row) (row : Row) → AreSeen ids rows → column row 0 ≡ Int id → AreSeen more (rows ++ row ∷ [])
one_more_seen ids more id is_above numbered count last rise are above place rows row seen is = record {
  count_is = let n = seen.count_is in let m = length-append rows (row ∷ []) in omega (arith, count, n, m);
  last_is = λ _. subst (λ (o : Option ℤ). ShowsLast o (rows ++ row ∷ [])) (sym last) (rows, row, refl, is);
  rise = (
    λ t.
        let both = both_true ids.rise is_above (sym rise ∙ t) in
        let was = seen.rise.0 both.0 in
        (more_whole rows row was.0 (id, is), more_rise ids.last id rows row (seen.last_is both.0) is (above.0 both.1) was.1),
    λ all.
        let before = seen.rise.1 (fewer_whole rows row all.0, rise_front rows row all.1) in
        rise ∙ and_true ids.rise is_above before (above.1 (last_less ids.last id rows row (seen.last_is before) is all.1)),
  );
  numbered = (
    λ t.
        let both = both_true ids.are_numbered numbered (sym are ∙ t) in
        let at : id ≡ pos (0 + length rows) = place.0 both.1 ∙ ap (λ (n : ℕ). pos n) (seen.count_is ∙ zero_more (length rows)) in
        numbered_push 0 rows row (seen.numbered.0 both.0) (is ∙ ap (λ (z : ℤ). Int z) at),
    λ all.
        let front = numbered_front 0 rows row all in
        let at : id ≡ pos (0 + length rows) = int_same id (pos (0 + length rows)) (sym is ∙ front.1) in
        are ∙ and_true ids.are_numbered numbered (seen.numbered.1 front.0) (place.1 (at ∙ ap (λ (n : ℕ). pos n) (sym (seen.count_is ∙ zero_more (length rows))))),
  );
}
  where
    zero_more : (n : ℕ) → n ≡ 0 + n
    zero_more n = omega arith

    int_same : (a b : ℤ) → ◌≡◌ {A = Value} (Int a) (Int b) → a ≡ b
    int_same a b e = cc

    and_true : (a b : Bool) → a ≡ true → b ≡ true → (a && b) ≡ true
    and_true a b p q = rw (p, q) refl

any_map : {A B : Type 0} (p : B → Bool) (f : A → B) (xs : List A) → list_any p (map f xs) ≡ list_any (λ x. p (f x)) xs
any_map p f [] = refl
any_map p f (x ∷ xs) = ap (λ b. p (f x) || b) (any_map p f xs)

-- the versions are those of the rows that were shown
pub entries_from : (es rows : List Row) (ids : Ids) (found : LogFound) → IsPermutation (map (shown (one_column 0) []) (filter (passes_on [] []) es)) rows → AreApart es → AreSeen ids rows → IsTrue ids.rise
    → found.entries ≡ ids.count → found.is_whole ≡ ids.are_numbered → ids.count < 2 ^ 32 → AreEntries es found
entries_from es rows ids found same apart are rise entries whole fits =
    let moved : IsPermutation (map (shown (one_column 0) []) es) rows = subst (λ xs. IsPermutation (map (shown (one_column 0) []) xs) rows) (filter_none [] es) same in
    let count : length es ≡ length rows = sym (length_permutation (map (shown (one_column 0) []) es) rows moved ∙ length-map es _) in
    let there = λ (version : ℕ). sym (any_map (is_version version) (shown (one_column 0) []) es) ∙ list_any-IsPermutation (is_version version) (map (shown (one_column 0) []) es) rows moved in
    let were = are.rise.0 rise in
    let each = numbered_each rows were.0 were.1 in
    record {
      apart = apart;
      count_is = entries ∙ are.count_is ∙ sym count;
      whole = (
        λ t version less. there version ∙ each.0 (are.numbered.0 (sym whole ∙ t)) version (omega (arith, less, count)),
        λ all. whole ∙ are.numbered.1 (each.1 (λ version less. sym (there version) ∙ all version (omega (arith, less, count)))),
      );
      fits = subst (λ (n : ℕ). n < 2 ^ 32) (sym entries) fits;
    }

-- ---- the four queries

pub match_then : {X : Type 0} (N M : Type 0) (P Q : X → Type 0) (o : Option X) → (N → M) → ((x : X) → P x → Q x) → MatchOption o N P → MatchOption o M Q
match_then N M P Q None n f h = n h
match_then N M P Q (Some x) n f h = f x h

pub none_left : {X : Type 0} (o : Option X) (N : Type 0) (P : X → Type 0) → ((x : X) → o ≡ Some x → ⊥) → MatchOption o N P → N
none_left None N P missing h = h
none_left (Some x) N P missing h = absurd (missing x refl)

pub front_counted : (s0 s1 s2 s3 : State) (rows meta log : Ids) (found : LogFound) → HasFront s0.now.schema → s1.now ≡ s0.now → s2.now ≡ s1.now
    → ShowsIds (ids_text part.Rows) s0 s1 rows → ShowsIds (ids_text part.Meta) s1 s2 meta → ShowsIds (ids_text part.Log) s2 s3 log
    → rows.rise ≡ true → meta.rise ≡ true → log.rise ≡ true → found.entries ≡ log.count → found.is_whole ≡ log.are_numbered → log.count < 2 ^ 32 → IsCounted s0.now.trees found
front_counted s0 s1 s2 s3 rows meta log found front e1 e2 r m l sr sm sl entries whole fits =
    let f2 : s2.now ≡ s0.now = e2 ∙ e1 in
    let asks = λ (p : Part) (front : HasPart s0.now.schema p). ids_are p s0.now.schema front in
    let has = λ (s : State) (e : s.now ≡ s0.now). ap (λ (d : Database). d.schema) e in
    let same = ids_same s0.now.schema part.Log (asks part.Log front) s2 s3 (has s2 f2) log l in
    let apart = ids_apart s0.now.schema part.Log (asks part.Log front) s2 s3 (has s2 f2) log l sl in
    record {
      rows = ids_apart s0.now.schema part.Rows (asks part.Rows front) s0 s1 refl rows r sr;
      meta = subst (λ (t : Database). AreApart (t.trees 2)) e1 (ids_apart s0.now.schema part.Meta (asks part.Meta front) s1 s2 (has s1 e1) meta m sm);
      log = subst (λ (t : Database). AreEntries (t.trees 4) found) f2 (entries_from (overlay s2.now.trees [] 4) l.rows log found same apart l.are sl entries whole fits);
    }

-- rowids that are apart rise as they are read, and the count of the log is its rows'
pub front_rises : (s0 s1 s2 s3 : State) (rows meta log : Ids) → HasFront s0.now.schema → s1.now ≡ s0.now → s2.now ≡ s1.now
    → ShowsIds (ids_text part.Rows) s0 s1 rows → ShowsIds (ids_text part.Meta) s1 s2 meta → ShowsIds (ids_text part.Log) s2 s3 log
    → AreCountable s0.now.trees → (rows.rise ≡ true) × (meta.rise ≡ true) × (log.rise ≡ true) × (log.count < 2 ^ 32)
front_rises s0 s1 s2 s3 rows meta log front e1 e2 r m l can =
    let f2 : s2.now ≡ s0.now = e2 ∙ e1 in
    let asks = λ (p : Part) (front : HasPart s0.now.schema p). ids_are p s0.now.schema front in
    let has = λ (s : State) (e : s.now ≡ s0.now). ap (λ (d : Database). d.schema) e in (
      ids_rise s0.now.schema part.Rows (asks part.Rows front) s0 s1 refl rows r can.rows,
      ids_rise s0.now.schema part.Meta (asks part.Meta front) s1 s2 (has s1 e1) meta m (subst (λ (d : Database). AreApart (d.trees 2)) (sym e1) can.meta),
      ids_rise s0.now.schema part.Log (asks part.Log front) s2 s3 (has s2 f2) log l (subst (λ (d : Database). AreApart (d.trees 4)) (sym f2) can.log),
      subst (λ (n : ℕ). n < 2 ^ 32) (sym (ids_count s0.now.schema part.Log (asks part.Log front) s2 s3 (has s2 f2) log l ∙ ap (λ (d : Database). length (d.trees 4)) f2)) can.fits,
    )

pub pending_apart : (s0 s1 : State) (ids : Ids) → s0.now.schema ≡ store_schema → ShowsIds (ids_text part.Pending) s0 s1 ids → IsTrue ids.rise ↔ AreApart (s0.now.trees 5)
pending_apart s0 s1 ids is shown =
    (λ rise. ids_apart store_schema part.Pending (ids_are part.Pending store_schema refl) s0 s1 is ids shown rise, λ are. ids_rise store_schema part.Pending (ids_are part.Pending store_schema refl) s0 s1 is ids shown are)

-- ---- what the columns of a row are

int_value : (v : Value) → is_of kind.Integer v ≡ true → not (is_null v) ≡ true → (n : ℤ) × (v ≡ Int n)
int_value Null t n = absurd cc
int_value (Int k) t n = (k, refl)
int_value (Real x) t n = absurd cc
int_value (Words w) t n = absurd cc
int_value (Blob b) t n = absurd cc

blob_value : (v : Value) → is_of kind.Blob v ≡ true → not (is_null v) ≡ true → (b : List ℕ) × (v ≡ Blob b)
blob_value Null t n = absurd cc
blob_value (Int k) t n = absurd cc
blob_value (Real x) t n = absurd cc
blob_value (Words w) t n = absurd cc
blob_value (Blob b) t n = (b, refl)

text_value : (v : Value) → is_of kind.Text v ≡ true → not (is_null v) ≡ true → (w : List ℕ) × (v ≡ Words w)
text_value Null t n = absurd cc
text_value (Int k) t n = absurd cc
text_value (Real x) t n = absurd cc
text_value (Words w) t n = (w, refl)
text_value (Blob b) t n = absurd cc

null_value : (v : Value) → is_null v ≡ true → v ≡ Null
null_value Null t = refl
null_value (Int k) t = absurd cc
null_value (Real x) t = absurd cc
null_value (Words w) t = absurd cc
null_value (Blob b) t = absurd cc

dead1 : (a : Bool) → (a && false) ≡ true → ⊥
dead1 true e = absurd cc
dead1 false e = absurd cc

dead2 : (a b : Bool) → (a && (b && false)) ≡ true → ⊥
dead2 true b e = dead1 b e
dead2 false b e = absurd cc

dead3 : (a b c : Bool) → (a && (b && (c && false))) ≡ true → ⊥
dead3 true b c e = dead2 b c e
dead3 false b c e = absurd cc

dead4 : (a b c d : Bool) → (a && (b && (c && (d && false)))) ≡ true → ⊥
dead4 true b c d e = dead3 b c d e
dead4 false b c d e = absurd cc

all2 : (a b : Bool) → (a && (b && true)) ≡ true → (a ≡ true) × (b ≡ true)
all2 true true e = (refl, refl)
all2 true false e = absurd cc
all2 false b e = absurd cc

all3 : (a b c : Bool) → (a && (b && (c && true))) ≡ true → (a ≡ true) × (b ≡ true) × (c ≡ true)
all3 true b c e = let r = all2 b c e in (refl, r.0, r.1)
all3 false b c e = absurd cc

all4 : (a b c d : Bool) → (a && (b && (c && (d && true)))) ≡ true → (a ≡ true) × (b ≡ true) × (c ≡ true) × (d ≡ true)
all4 true b c d e = let r = all3 b c d e in (refl, r.0, r.1, r.2)
all4 false b c d e = absurd cc

typed_row : (r : Row) → ShowsNumber r → are_typed None 0 rows_table.columns (drop 1 r) ≡ true → are_present None 0 rows_table.columns r ≡ true → IsRow r
typed_row [] whole t n = absurd (let e = whole.1 in cc)
typed_row (i ∷ []) whole t n = absurd cc
typed_row (i ∷ a ∷ []) whole t n = absurd (dead1 (not (is_null a)) n)
typed_row (i ∷ a ∷ b ∷ []) whole t n = absurd (dead2 (not (is_null a)) (not (is_null b)) n)
typed_row (i ∷ a ∷ b ∷ c ∷ []) whole t n =
    let are = all3 (is_of kind.Integer a) (is_of kind.Blob b) (is_of kind.Blob c) t in
    let some = all3 (not (is_null a)) (not (is_null b)) (not (is_null c)) n in
    let va = int_value a are.0 some.0 in
    let vb = blob_value b are.1 some.1 in
    let vc = blob_value c are.2 some.2 in
    let vi : i ≡ Int whole.0 = whole.1 in
    (whole.0, va.0, vb.0, vc.0, λ j. vi j ∷ va.1 j ∷ vb.1 j ∷ vc.1 j ∷ [])
typed_row (i ∷ a ∷ b ∷ c ∷ d ∷ more) whole t n = absurd (dead3 (is_of kind.Integer a) (is_of kind.Blob b) (is_of kind.Blob c) t)

typed_meta : (r : Row) → ShowsNumber r → are_typed None 0 meta_table.columns (drop 1 r) ≡ true → are_present None 0 meta_table.columns r ≡ true → IsMeta r
typed_meta [] whole t n = absurd (let e = whole.1 in cc)
typed_meta (i ∷ []) whole t n = absurd cc
typed_meta (i ∷ a ∷ []) whole t n = absurd (dead1 (not (is_null a)) n)
typed_meta (i ∷ a ∷ b ∷ []) whole t n =
    let are = all2 (is_of kind.Text a) (is_of kind.Blob b) t in
    let some = all2 (not (is_null a)) (not (is_null b)) n in
    let va = text_value a are.0 some.0 in
    let vb = blob_value b are.1 some.1 in
    let vi : i ≡ Int whole.0 = whole.1 in
    (whole.0, va.0, vb.0, λ j. vi j ∷ va.1 j ∷ vb.1 j ∷ [])
typed_meta (i ∷ a ∷ b ∷ c ∷ more) whole t n = absurd (dead2 (is_of kind.Text a) (is_of kind.Blob b) t)

typed_log : (r : Row) → ShowsNumber r → are_typed log_table.key 0 log_table.columns (drop 1 r) ≡ true → are_present log_table.key 0 log_table.columns r ≡ true → IsLog r
typed_log [] whole t n = absurd (let e = whole.1 in cc)
typed_log (i ∷ []) whole t n = absurd cc
typed_log (i ∷ a ∷ []) whole t n = absurd cc
typed_log (i ∷ a ∷ b ∷ []) whole t n = absurd (dead1 (not (is_null b)) n)
typed_log (i ∷ a ∷ b ∷ c ∷ []) whole t n = absurd (dead2 (not (is_null b)) (not (is_null c)) n)
typed_log (i ∷ a ∷ b ∷ c ∷ d ∷ []) whole t n =
    let are = all4 (is_null a) (is_of kind.Integer b) (is_of kind.Integer c) (is_of kind.Blob d) t in
    let some = all3 (not (is_null b)) (not (is_null c)) (not (is_null d)) n in
    let va = null_value a are.0 in
    let vb = int_value b are.1 some.0 in
    let vc = int_value c are.2 some.1 in
    let vd = blob_value d are.3 some.2 in
    let vi : i ≡ Int whole.0 = whole.1 in
    (whole.0, vb.0, vc.0, vd.0, λ j. vi j ∷ va j ∷ vb.1 j ∷ vc.1 j ∷ vd.1 j ∷ [])
typed_log (i ∷ a ∷ b ∷ c ∷ d ∷ e ∷ more) whole t n = absurd (dead4 (is_null a) (is_of kind.Integer b) (is_of kind.Integer c) (is_of kind.Blob d) t)

-- ---- keys apart

truth_is : (b : Bool) → is_true (from_truth (Some b)) ≡ b
truth_is true = refl
truth_is false = refl

ne_is : (o : Ordering) → is_ne o ≡ not (is_eq o)
ne_is Less = refl
ne_is Equal = refl
ne_is Greater = refl

other_int : (a b : ℤ) → differ (Int a) (Int b) ≡ not (is_eq (int_cmp a b))
unfolding binary
other_int a b = truth_is _ ∙ ap is_ne (value_cmp-Int a b) ∙ ne_is (int_cmp a b)

differs : (x y : Row) → ShowsNumber x → ShowsNumber y → same_id x y ≡ false → differ (rowid x) (rowid y) ≡ true
differs x y wx wy apart =
    let same : is_eq (int_cmp wx.0 wy.0) ≡ false = ap is_eq (sym (value_cmp-Int wx.0 wy.0)) ∙ (λ i. is_eq (value_cmp (sym wx.1 i) (sym wy.1 i))) ∙ apart in
    (λ i. differ (wx.1 i) (wy.1 i)) ∙ other_int wx.0 wy.0 ∙ ap not same

false_if : (b : Bool) → (b ≡ true → ⊥) → b ≡ false
false_if true h = absurd (h refl)
false_if false h = refl

not_so : (b : Bool) → not b ≡ true → b ≡ false
not_so true h = absurd cc
not_so false h = refl

module _ {K X : Type 0} (R : K → K → Ordering) (entry : Row → K × X) (places : List ℕ) (all : List Row) (whole : AllByRecursion ShowsNumber all)
    (agrees : (x y : Row) → Has all x → Has all y → same_key R entry x y ≡ true → agree plain places x places y ≡ true) (clash : AllByRecursion (λ y. clashes plain places all y ≡ false) all) where
  key_apart : (x y : Row) → Has all x → Has all y → same_id x y ≡ false → same_key R entry x y ≡ false
  key_apart x y hx hy apart = false_if _ (λ same.
      let found : (agree plain places x places y && differ (rowid x) (rowid y)) ≡ true = rw (agrees x y hx hy same, differs x y (all_has ShowsNumber all x whole hx) (all_has ShowsNumber all y whole hy) apart) refl in
      let n = all_has _ all y clash hy in
      let s : clashes plain places all y ≡ true = some_from (λ (other : Row). agree plain places other places y && differ (rowid other) (rowid y)) all x hx found in
      let no : true ≡ false = sym s ∙ n in cc)

  row_apart : (x : Row) (rows : List Row) → Has all x → ((y : Row) → Has rows y → Has all y) → AllByRecursion (λ y. same_id x y ≡ false) rows → AllByRecursion (λ y. same_key R entry x y ≡ false) rows
  row_apart x [] hx within a = tt
  row_apart x (y ∷ rows) hx within a = (key_apart x y hx (within y (inl refl)) a.0, row_apart x rows hx (λ z h. within z (inr h)) a.1)

  keys_apart : (rows : List Row) → ((y : Row) → Has rows y → Has all y) → Apart same_id rows → Apart (same_key R entry) rows
  keys_apart [] within a = tt
  keys_apart (x ∷ rows) within a = (row_apart x rows (within x (inl refl)) (λ y h. within y (inr h)) a.0, keys_apart rows (λ y h. within y (inr h)) a.1)

rows_agree : (x y : Row) → IsRow x → IsRow y → same_key place_cmp row_pair x y ≡ true → agree plain (1 ∷ 2 ∷ []) x (1 ∷ 2 ∷ []) y ≡ true
unfolding first_key
rows_agree x y ix iy same =
    let e = passes_is iy.1 iy.2 [] x ix in
    let tie : eq_by_cmp place_cmp (iy.1, iy.2) (row_pair x).0 ≡ true = (rw iy.4 at ((eq_by_cmp_equiv place_total).symm (row_pair y).0 (row_pair x).0 ∙ same)) in
    rw iy.4 (e ∙ tie)

meta_agree : (x y : Row) → IsMeta x → IsMeta y → same_key (by_bytes) value_pair x y ≡ true → agree plain (1 ∷ []) x (1 ∷ []) y ≡ true
unfolding first_key
meta_agree x y ix iy same =
    let e = name_passes iy.1 [] x ix in
    let tie : eq_by_cmp (by_bytes) iy.1 (value_pair x).0 ≡ true = (rw iy.3 at ((eq_by_cmp_equiv nat_list_cmp_total).symm (value_pair y).0 (value_pair x).0 ∙ same)) in
    rw iy.3 (e ∙ tie)

-- ---- the log's keys are its rowids

log_apart : (x : Row) (rows : List Row) → ShowsNumber x → AllByRecursion ShowsNumber rows → AllByRecursion (λ y. same_id x y ≡ false) rows → AllByRecursion (λ y. same_key int_cmp entry_pair x y ≡ false) rows
log_apart x [] wx whole a = tt
log_apart x (y ∷ rows) wx whole a =
    let same : is_eq (int_cmp wx.0 whole.0.0) ≡ false = ap is_eq (sym (value_cmp-Int wx.0 whole.0.0)) ∙ (λ i. is_eq (value_cmp (sym wx.1 i) (sym whole.0.1 i))) ∙ a.0 in
    ((λ i. is_eq (int_cmp (id_in (wx.1 i)) (id_in (whole.0.1 i)))) ∙ same, log_apart x rows wx whole.1 a.1)

logs_apart : (rows : List Row) → AllByRecursion ShowsNumber rows → Apart same_id rows → Apart (same_key int_cmp entry_pair) rows
logs_apart [] whole a = tt
logs_apart (x ∷ rows) whole a = (log_apart x rows whole.0 whole.1 a.0, logs_apart rows whole.1 a.1)

pub log_counted : (es : List Row) → AllByRecursion IsLog es → Apart (same_key int_cmp entry_pair) es → len (from_entries {R = int_cmp} (map entry_pair es)) ≡ length es
log_counted [] is a = len-empty int_cmp LogItem
log_counted (e ∷ es) is a =
    let rest = from_entries {R = int_cmp} (map entry_pair es) in
    let lacks : contains_key rest (entry_pair e).0 ≡ false = ap is_some (get-from_entries int_cmp_total (map entry_pair es) (entry_pair e).0 ∙ find_none int_cmp_total exact_signed entry_pair IsLog (entry_pair e).0 es a.0) in
    let n = log_counted es is.1 a.1 in
    len-insert int_cmp_total rest (entry_pair e).0 (entry_pair e).1 ∙ ap (λ b. cond b (len rest) (len rest + 1)) lacks ∙ omega (arith, n)

-- ---- the connection

pub untouched : (s0 s1 : State) → Serves s0 → IsUnchanged s0 s1 → IsUntouched s0 s1
untouched s0 s1 serves u = record { was_open = serves.is_open; is_open = u.0.is_open; now = u.0.now_is; settled = u.0.committed_is ∙ serves.settled ∙ sym u.0.now_is }

pub untouched_then : (s0 s1 s2 : State) → Serves s0 → IsUnchanged s0 s1 → IsUnchanged s1 s2 → IsUntouched s0 s2
untouched_then s0 s1 s2 serves u w = record {
  was_open = serves.is_open;
  is_open = w.0.is_open;
  now = w.0.now_is ∙ u.0.now_is;
  settled = w.0.committed_is ∙ u.0.committed_is ∙ serves.settled ∙ sym u.0.now_is ∙ sym w.0.now_is;
}

-- ---- the whole store

module _ (trees : Trees) (typed : Keeps Datatype front_schema trees) (present : Keeps NotNull front_schema trees) (unique : Keeps Unique front_schema trees) (found : LogFound) (counted : IsCounted trees found) where
  rows_typed : AllByRecursion IsRow (trees 0)
  rows_typed = all_from IsRow (trees 0) (λ r h. typed_row r (all_has ShowsNumber (trees 0) r counted.rows.whole h) ((and_parts _ true (all_has _ (trees 0) r typed.0 h)).0) (all_has _ (trees 0) r present.0 h))

  meta_typed : AllByRecursion IsMeta (trees 2)
  meta_typed = all_from IsMeta (trees 2) (λ r h. typed_meta r (all_has ShowsNumber (trees 2) r counted.meta.whole h) ((and_parts _ true (all_has _ (trees 2) r typed.1.0 h)).0) (all_has _ (trees 2) r present.1.0 h))

  log_typed : AllByRecursion IsLog (trees 4)
  log_typed = all_from IsLog (trees 4) (λ r h. typed_log r (all_has ShowsNumber (trees 4) r counted.log.apart.whole h) ((and_parts _ true (all_has _ (trees 4) r typed.1.1.0 h)).0) (all_has _ (trees 4) r present.1.1.0 h))

  rows_clash : AllByRecursion (λ r. clashes plain (1 ∷ 2 ∷ []) (trees 0) r ≡ false) (trees 0)
  rows_clash = all_from _ (trees 0) (λ r h. not_so _ (and_parts (not (clashes plain (1 ∷ 2 ∷ []) (trees 0) r)) true (all_has _ (trees 0) r unique.0 h)).0)

  meta_clash : AllByRecursion (λ r. clashes plain (1 ∷ []) (trees 2) r ≡ false) (trees 2)
  meta_clash = all_from _ (trees 2) (λ r h. not_so _ (and_parts (not (clashes plain (1 ∷ []) (trees 2) r)) true (all_has _ (trees 2) r unique.1.0 h)).0)

  log_keys : Apart (same_key int_cmp entry_pair) (trees 4)
  log_keys = logs_apart (trees 4) counted.log.apart.whole counted.log.apart.apart

  pub front_kept : IsFrontKept trees
  front_kept = record {
    rows = record {
      typed = rows_typed;
      ids_apart = counted.rows.apart;
      keys_apart = keys_apart place_cmp row_pair (1 ∷ 2 ∷ []) (trees 0) counted.rows.whole (λ x y hx hy. rows_agree x y (all_has IsRow (trees 0) x rows_typed hx) (all_has IsRow (trees 0) y rows_typed hy)) rows_clash (trees 0) (λ y h. h) counted.rows.apart;
    };
    meta = record {
      typed = meta_typed;
      ids_apart = counted.meta.apart;
      keys_apart = keys_apart by_bytes value_pair (1 ∷ []) (trees 2) counted.meta.whole (λ x y hx hy. meta_agree x y (all_has IsMeta (trees 2) x meta_typed hx) (all_has IsMeta (trees 2) y meta_typed hy)) meta_clash (trees 2) (λ y h. h) counted.meta.apart;
    };
    log = record { typed = log_typed; ids_apart = counted.log.apart.apart; keys_apart = log_keys };
  }

  pub log_counts : found.entries ≡ len (contents_in trees).log
  log_counts = counted.log.count_is ∙ sym (log_counted (trees 4) log_typed log_keys)

  pub log_whole : IsTrue found.is_whole ↔ ((version : ℕ) → version < len (contents_in trees).log → IsSome (get (contents_in trees).log (pos version)))
  log_whole =
      let there = λ (version : ℕ). ap is_some (get-from_entries int_cmp_total (map entry_pair (trees 4)) (pos version)) ∙ found_is version (trees 4) counted.log.apart.whole in
      let count : len (contents_in trees).log ≡ length (trees 4) = log_counted (trees 4) log_typed log_keys in (
        λ t version less. there version ∙ counted.log.whole.0 t version (subst (λ (n : ℕ). version < n) count less),
        λ each. counted.log.whole.1 (λ version less. sym (there version) ∙ each version (subst (λ (n : ℕ). version < n) (sym count) less)),
      )
    where
      found_is : (version : ℕ) (es : List Row) → AllByRecursion ShowsNumber es → is_some (find int_cmp (pos version) (map entry_pair es)) ≡ list_any (is_version version) es
      found_is version [] whole = refl
      found_is version (r ∷ es) whole =
          let id = whole.0.0 in
          let tie : eq_by_cmp int_cmp (pos version) (entry_pair r).0 ≡ is_version version r =
          (λ i. eq_by_cmp int_cmp (pos version) (id_in (whole.0.1 i))) ∙ (eq_by_cmp_equiv int_cmp_total).symm (pos version) id ∙ sym ((λ i. is_eq (value_cmp (whole.0.1 i) (Int (pos version)))) ∙ ap is_eq (value_cmp-Int id (pos version))) in
          some_or (eq_by_cmp int_cmp (pos version) (entry_pair r).0) (entry_pair r).1 (find int_cmp (pos version) (map entry_pair es)) ∙ (λ i. tie i || found_is version es whole.1 i)
        where
          some_or : (b : Bool) (item : LogItem) (rest : Option LogItem) → is_some (cond b (Some item) rest) ≡ (b || is_some rest)
          some_or true item rest = refl
          some_or false item rest = refl

-- the rules of a store's schema are those of its front, and `pending`'s
pub found_front : (db : Database) (found : LogFound) → db.schema ≡ front_schema → IsDatabase db → IsCounted db.trees found → IsFrontKept db.trees × IsLogOf (front_in db.trees) found
found_front db found schema sound counted =
    let typed : Keeps Datatype front_schema db.trees = subst (λ (s : Schema). Keeps Datatype s db.trees) schema (sound.obeys.rules Datatype) in
    let present : Keeps NotNull front_schema db.trees = subst (λ (s : Schema). Keeps NotNull s db.trees) schema (sound.obeys.rules NotNull) in
    let unique : Keeps Unique front_schema db.trees = subst (λ (s : Schema). Keeps Unique s db.trees) schema (sound.obeys.rules Unique) in
    (front_kept db.trees typed present unique found counted, record { counted = log_counts db.trees typed present unique found counted; whole = log_whole db.trees typed present unique found counted; fits = counted.log.fits })

pub found_ours : (db : Database) (found : LogFound) → db.schema ≡ store_schema → IsDatabase db → IsCounted db.trees found → AreApart (db.trees 5) → IsKept db × IsLogOf (contents_in db.trees) found
found_ours db found schema sound counted apart =
    let all_typed : Keeps Datatype store_schema db.trees = subst (λ (s : Schema). Keeps Datatype s db.trees) schema (sound.obeys.rules Datatype) in
    let all_present : Keeps NotNull store_schema db.trees = subst (λ (s : Schema). Keeps NotNull s db.trees) schema (sound.obeys.rules NotNull) in
    let all_unique : Keeps Unique store_schema db.trees = subst (λ (s : Schema). Keeps Unique s db.trees) schema (sound.obeys.rules Unique) in
    let typed : Keeps Datatype front_schema db.trees = (all_typed.0, (all_typed.1.0, (all_typed.1.1.0, tt))) in
    let present : Keeps NotNull front_schema db.trees = (all_present.0, (all_present.1.0, (all_present.1.1.0, tt))) in
    let unique : Keeps Unique front_schema db.trees = (all_unique.0, (all_unique.1.0, (all_unique.1.1.0, tt))) in
    let front = front_kept db.trees typed present unique found counted in
    let is_row : AllByRecursion IsRow (db.trees 5) =
    all_from IsRow (db.trees 5) (λ r h. typed_row r (all_has ShowsNumber (db.trees 5) r apart.whole h) ((and_parts _ true (all_has _ (db.trees 5) r all_typed.1.1.1.0 h)).0) (all_has _ (db.trees 5) r all_present.1.1.1.0 h)) in
    let clash : AllByRecursion (λ r. clashes plain (1 ∷ 2 ∷ []) (db.trees 5) r ≡ false) (db.trees 5) =
    all_from _ (db.trees 5) (λ r h. not_so _ (and_parts (not (clashes plain (1 ∷ 2 ∷ []) (db.trees 5) r)) true (all_has _ (db.trees 5) r all_unique.1.1.1.0 h)).0) in (
      record {
        schema = schema;
        rows = front.rows;
        meta = front.meta;
        log = front.log;
        pending = record {
          typed = is_row;
          ids_apart = apart.apart;
          keys_apart = keys_apart place_cmp row_pair (1 ∷ 2 ∷ []) (db.trees 5) apart.whole (λ x y hx hy. rows_agree x y (all_has IsRow (db.trees 5) x is_row hx) (all_has IsRow (db.trees 5) y is_row hy)) clash (db.trees 5) (λ y h. h) apart.apart;
        };
      },
      record { counted = log_counts db.trees typed present unique found counted; whole = log_whole db.trees typed present unique found counted; fits = counted.log.fits },
    )

-- ---- what is no store's

abbrev tables_in : Schema → ℕ
tables_in schema = length schema.tables

pub store_apart : store_schema ≢ front_schema
store_apart e = let n : 4 ≡ 3 = ap tables_in e in absurd (omega (arith, n))

pub store_some : store_schema ≢ no_schema
store_some e = let n : 4 ≡ 0 = ap tables_in e in absurd (omega (arith, n))

pub front_some : front_schema ≢ no_schema
front_some e = let n : 3 ≡ 0 = ap tables_in e in absurd (omega (arith, n))

log_fits : (es : List Row) (log : LogFound) (contents : Contents) → contents.log ≡ from_entries (map entry_pair es) → IsMapped int_cmp entry_pair IsLog es → IsLogOf contents log → length es < 2 ^ 32
log_fits es log contents is m found = subst (λ (n : ℕ). n < 2 ^ 32) (found.counted ∙ ap (λ (l : Log). len l) is ∙ log_counted es m.typed m.keys_apart) found.fits

rows_apart : (es : List Row) → IsMapped place_cmp row_pair IsRow es → AreApart es
rows_apart es m = record { whole = all_from ShowsNumber es (λ r h. let it = all_has IsRow es r m.typed h in (it.0, ap (λ (q : Row). column q 0) it.4)); apart = m.ids_apart }

meta_apart : (es : List Row) → IsMapped by_bytes value_pair IsMeta es → AreApart es
meta_apart es m = record { whole = all_from ShowsNumber es (λ r h. let it = all_has IsMeta es r m.typed h in (it.0, ap (λ (q : Row). column q 0) it.3)); apart = m.ids_apart }

log_ids_apart : (es : List Row) → IsMapped int_cmp entry_pair IsLog es → AreApart es
log_ids_apart es m = record { whole = all_from ShowsNumber es (λ r h. let it = all_has IsLog es r m.typed h in (it.0, ap (λ (q : Row). column q 0) it.4)); apart = m.ids_apart }

front_countable : (log : LogFound) (db : Database) → IsFrontOf log db → AreCountable db.trees
front_countable log db is = record {
  rows = rows_apart (db.trees 0) is.1.rows;
  meta = meta_apart (db.trees 2) is.1.meta;
  log = log_ids_apart (db.trees 4) is.1.log;
  fits = log_fits (db.trees 4) log (front_in db.trees) refl is.1.log is.2;
}

store_countable : (log : LogFound) (db : Database) → IsStoreOf log db → AreCountable db.trees
store_countable log db is = record {
  rows = rows_apart (db.trees 0) is.0.rows;
  meta = meta_apart (db.trees 2) is.0.meta;
  log = log_ids_apart (db.trees 4) is.0.log;
  fits = log_fits (db.trees 4) log (contents_in db.trees) refl is.0.log is.1;
}

pub foreign_schema : (db : Database) → IsForeign db.schema → IsFound Foreign db
foreign_schema db is = (is.0, λ log front. is.1 front.0, λ log store. is.2 store.0.schema)

pub foreign_front : (db : Database) → db.schema ≡ front_schema → ¬ AreCountable db.trees → IsFound Foreign db
foreign_front db is fails = (λ e. front_some (sym is ∙ e), λ log front. fails (front_countable log db front), λ log store. store_apart (sym store.0.schema ∙ is))

pub foreign_store : (db : Database) → db.schema ≡ store_schema → ¬ AreCountable db.trees → IsFound Foreign db
foreign_store db is fails = (λ e. store_some (sym is ∙ e), λ log front. store_apart (sym is ∙ front.0), λ log store. fails (store_countable log db store))

pub foreign_pending : (db : Database) → db.schema ≡ store_schema → ¬ AreApart (db.trees 5) → IsFound Foreign db
foreign_pending db is fails = (λ e. store_some (sym is ∙ e), λ log front. store_apart (sym is ∙ front.0), λ log store. fails (rows_apart (db.trees 5) store.0.pending))
