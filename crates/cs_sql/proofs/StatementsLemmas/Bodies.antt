-- The bodies of the log are read in the order of their versions, and judged one after another.
use Rattle.std.proofs.Common.{◌≡◌, inl, inr, ℕ, suc, ◌+◌, ℤ, List, [], ◌∷◌, ◌++◌, map, Bool, true, false, cond, ◌&&◌, Option, Some, None, T, refl, sym, ap, subst, ◌∙◌, arith, get_or}
use Rattle.std.specs.Option.{option_map}
use Rattle.std.specs.declared.cmp.Ordering.{Ordering}
use Rattle.std.specs.declared.cmp.Ordering.TheVariants.{Less, Equal, Greater}
use Rattle.std.specs.Ordering.{eq_by_cmp, int_cmp, is_lt, ordering_then}
use Rattle.std.specs.Cmp.{eq_by_cmp_equiv}
use Rattle.std.specs.List.{AllByRecursion, filter}
use Rattle.std.specs.List.Sorted.{IsPermutation, IsSorted}
use Rattle.std.specs.FinMap.{entries, entries_sorted, find, from_entries, get, get-entries, get-from_entries, is_sorted}
use Rattle.std.specs.FinMap.Entries.{below_all, same_entries}
use Rattle.std.proofs.lemmas.Bool.{cases_Bool}
use Rattle.std.proofs.lemmas.Cmp.{int_cmp_total}
use Rattle.std.proofs.lemmas.List.{map-append}
use Rattle.std.proofs.lemmas.Map.Lookups.{exact_signed}
use Rattle.std.proofs.lemmas.List.Sorted.{IsPermutation-map}
use Rattle.sqlite.specs.Order.{Row, column}
use Rattle.sqlite.specs.Query.{Output, Query, output_cmp}
use Rattle.sqlite.specs.State.{State, Shown}
use Rattle.sqlite.specs.Edit.{id_in}
use Rattle.sqlite.proofs.Callers.{reads_as}
use Rattle.sqlite_value.specs.declared.value.Value.TheVariants.{Null, Int}
use Rattle.sqlite_value.specs.Order.{value_cmp}
use Rattle.sqlite_value.proofs.OrderLemmas.{value_cmp-Int}
use Rattle.cs_value.specs.Catalog.{AreTables}
use Rattle.cs_value.specs.declared.catalog.TableDef.{TableDef}
use Rattle.cs_store.specs.Contents.{LogItem}
use Rattle.cs_store.specs.Whole.{AreJudged, log_bodies}
use Rattle.cs_store.specs.WholeLaws.{DecodesOn, RefusedOn}
use Rattle.cs_sql.specs.schema.Schemas.{store_schema}
use Rattle.cs_sql.specs.statements.Steps.{body_read}
use Rattle.cs_sql.specs.statements.Tables.{IsKept, IsLog, IsMapped, all_text, contents_in, entry_pair, same_key}
use Rattle.cs_sql.specs.declared.parts.Part.TheVariants as part
use Rattle.cs_sql.proofs.StatementsLemmas.Answers.{given, ordered_is, passes_on}
use Rattle.cs_sql.proofs.StatementsLemmas.Holding.{filter_none}
use Rattle.cs_sql.proofs.StatementsLemmas.Meanings.{all_in, all_is, all_plain, one_column, rising_by}
use Rattle.cs_sql.proofs.StatementsLemmas.Orders.{DontFall, all_permutation, apart_map, apart_permutation, find_permutation, rises, tied}

-- ---- the order

-- a version and a body, of an entry, of a row, and as an answer shows them
abbrev with_body : ℤ × LogItem → ℤ × List ℕ
with_body e = (e.0, e.1.body)

abbrev bare : Row → ℤ × List ℕ
bare r = with_body (entry_pair r)

abbrev entry : Output → ℤ × List ℕ
entry o = (id_in (column o.0 0), body_read o.1)

abbrev query : Query
query = all_in 4 (one_column 4) (rising_by 0)

-- what it is sorted by is its version
abbrev IsKeyed : Output → Type 0
IsKeyed o = column o.0 0 ≡ Int (entry o).0

first_not_less : (o : Ordering) → is_lt (ordering_then o Equal) ≡ false → is_lt o ≡ false
first_not_less Less h = h
first_not_less Equal h = refl
first_not_less Greater h = h

dont_fall : (os : List Output) → AllByRecursion IsKeyed os → IsSorted (output_cmp query) os → DontFall int_cmp_total exact_signed (map entry os)
dont_fall [] all h = tt
dont_fall (x ∷ []) all h = tt
dont_fall (x ∷ y ∷ os) all h = (
  first_not_less _ (ap (λ o. is_lt (ordering_then o Equal)) (sym (value_cmp-Int (entry y).0 (entry x).0) ∙ (λ i. value_cmp (sym all.1.0 i) (sym all.0 i))) ∙ h 0 x (omega arith) (omega arith)),
  dont_fall (y ∷ os) all.1 (λ k d a b.
      let n : suc k + 1 ≡ suc (k + 1) = omega arith in
      ap (λ j. is_lt (output_cmp query (get_or (x ∷ y ∷ os) j d) (get_or (y ∷ os) k d))) (sym n) ∙ h (suc k) d (omega arith) (omega (arith, b))),
)

map_twice : {A B C : Type 0} (f : B → C) (g : A → B) (xs : List A) → map f (map g xs) ≡ map (λ x. f (g x)) xs
map_twice f g [] = refl
map_twice f g (x ∷ xs) = ap (λ ys. f (g x) ∷ ys) (map_twice f g xs)

find_with : (k : ℤ) (es : List (ℤ × LogItem)) → find int_cmp k (map with_body es) ≡ option_map (λ (item : LogItem). item.body) (find int_cmp k es)
find_with k [] = refl
find_with k (e ∷ es) = elim (cases_Bool (eq_by_cmp int_cmp k e.0)) [
  | inl here ↦ rw here refl
  | inr other ↦ rw other (find_with k es)
]

below_with : (k : ℤ) (es : List (ℤ × LogItem)) → below_all int_cmp k (map with_body es) ≡ below_all int_cmp k es
below_with k [] = refl
below_with k (e ∷ es) = ap (λ b. is_lt (int_cmp k e.0) && b) (below_with k es)

sorted_with : (es : List (ℤ × LogItem)) → is_sorted int_cmp (map with_body es) ≡ is_sorted int_cmp es
sorted_with [] = refl
sorted_with (e ∷ es) = (λ i. below_with e.0 es i && sorted_with es i)

module _ (es : List Row) (m : IsMapped int_cmp entry_pair IsLog es) (ordered : List Output) (rows : List Row)
    (same : IsPermutation (map (given query []) (filter (passes_on [] []) es)) ordered)
    (sorted : IsSorted (output_cmp query) ordered) (shows : rows ≡ map (λ (o : Output). o.1) ordered) where
  abbrev Stored : List (ℤ × LogItem)
  Stored = entries (from_entries {R = int_cmp} (map entry_pair es))

  keyed_all : (rs : List Row) → AllByRecursion IsLog rs → AllByRecursion IsKeyed (map (given query []) rs)
  keyed_all [] all = tt
  keyed_all (r ∷ rs) all = (rw all.0.4 refl, keyed_all rs all.1)

  as_stored : map entry ordered ≡ map with_body Stored
  as_stored =
      let given_all : IsPermutation (map (given query []) es) ordered = subst (λ (xs : List Row). IsPermutation (map (given query []) xs) ordered) (filter_none [] es) same in
      let moved : IsPermutation (map bare es) (map entry ordered) = subst (λ xs. IsPermutation xs (map entry ordered)) (map_twice entry (given query []) es) (IsPermutation-map entry (map (given query []) es) ordered given_all) in
      let apart = apart_map (tied int_cmp_total exact_signed) bare es m.keys_apart in
      let keyed : AllByRecursion IsKeyed ordered = all_permutation IsKeyed (map (given query []) es) ordered given_all (keyed_all es m.typed) in
      let rise = rises int_cmp_total exact_signed (map entry ordered) (dont_fall ordered keyed sorted)
      (apart_permutation (tied int_cmp_total exact_signed) (λ a b. (eq_by_cmp_equiv int_cmp_total).symm a.0 b.0) (λ a. (eq_by_cmp_equiv int_cmp_total).refl a.0) (map bare es) (map entry ordered) moved apart) in
      same_entries int_cmp int_cmp_total exact_signed (map entry ordered) (map with_body Stored) rise (subst T (sym (sorted_with Stored)) (entries_sorted (from_entries (map entry_pair es)))) (λ k.
      find_permutation int_cmp_total exact_signed (map bare es) (map entry ordered) moved apart k
      ∙ ap (find int_cmp k) (sym (map_twice with_body entry_pair es)) ∙ find_with k (map entry_pair es)
      ∙ ap (option_map (λ (item : LogItem). item.body)) (sym (get-from_entries int_cmp_total (map entry_pair es) k) ∙ get-entries (from_entries (map entry_pair es)) k)
      ∙ sym (find_with k Stored))

  in_order : map body_read rows ≡ map (λ (e : ℤ × LogItem). e.1.body) Stored
  in_order =
      ap (map body_read) shows ∙ map_twice body_read (λ (o : Output). o.1) ordered
      ∙ sym (map_twice (λ (e : ℤ × List ℕ). e.1) entry ordered) ∙ ap (map (λ (e : ℤ × List ℕ). e.1)) as_stored ∙ map_twice (λ (e : ℤ × List ℕ). e.1) with_body Stored

pub shows_bodies : (old new : State) → IsKept old.now → (rows : List Row) → Shown (all_text part.Log) [] old new rows → map body_read rows ≡ log_bodies (contents_in old.now.trees)
shows_bodies old new has rows h =
    let a = reads_as (all_text part.Log) [] old new store_schema has.schema _ (all_is part.Log).0 (all_plain part.Log) (all_is part.Log).1 rows h in
    let it = ordered_is 4 [] (one_column 4) (rising_by 0) old.now.trees [] rows (a.answer Null) in
    in_order (old.now.trees 4) has.log it.ordered rows it.same it.sorted it.shown_are

-- ---- one after another

abbrev Bodies : List Row → List (List ℕ)
Bodies rows = map body_read rows

with_one : (rows : List Row) (row : Row) → Bodies (rows ++ row ∷ []) ≡ Bodies rows ++ body_read row ∷ []
with_one rows row = map-append body_read rows (row ∷ [])

-- one more is judged behind those that decode
pub judged_on : DecodesOn → RefusedOn → (opening before after : List TableDef) (rows : List Row) (row : Row) (bytes : List ℕ) (good : Bool) → AreTables opening → bytes ≡ body_read row
    → AreJudged opening (Bodies rows) true before → AreJudged before (bytes ∷ []) good after → AreJudged opening (Bodies (rows ++ row ∷ [])) good after
judged_on on refused opening before after rows row bytes good are is front next =
    subst (λ (l : List (List ℕ)). AreJudged opening l good after) (sym (with_one rows row))
    (by_answer good (subst (λ (b : List ℕ). AreJudged before (b ∷ []) good after) is next))
  where
    by_answer : (b : Bool) → AreJudged before (body_read row ∷ []) b after → AreJudged opening (Bodies rows ++ body_read row ∷ []) b after
    by_answer true h = (on opening after (Bodies rows) (body_read row ∷ [])).1 (before, front, h)
    by_answer false h = refused opening before after (Bodies rows) (body_read row) [] are front h

-- where the others don't decode, they don't with one more
pub judged_off : DecodesOn → (opening before : List TableDef) (rows : List Row) (row : Row) → AreJudged opening (Bodies rows) false before → AreJudged opening (Bodies (rows ++ row ∷ [])) false before
judged_off on opening before rows row never =
    subst (λ (l : List (List ℕ)). AreJudged opening l false before) (sym (with_one rows row)) (λ end all.
    let parts = (on opening end (Bodies rows) (body_read row ∷ [])).0 all in never parts.0 parts.1)

-- what was told of the rows that the query shows is told of the log
pub log_judged : (opening begun present : List TableDef) (start good : Bool) (sql : List ℕ) (old new : State) (rows : List Row) → AreTables opening → begun ≡ opening → start ≡ true → sql ≡ all_text part.Log
    → IsKept old.now → Shown sql [] old new rows → (AreTables begun → start ≡ true → AreJudged begun (Bodies rows) good present) → AreJudged opening (log_bodies (contents_in old.now.trees)) good present
log_judged opening begun present start good sql old new rows are is on text has shown told =
    subst (λ (l : List (List ℕ)). AreJudged opening l good present) (shows_bodies old new has rows (subst (λ (s : List ℕ). Shown s [] old new rows) text shown))
    (subst (λ (t : List TableDef). AreTables t → AreJudged t (Bodies rows) good present) is (λ these. told these on) are)
