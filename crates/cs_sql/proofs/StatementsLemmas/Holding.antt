-- That all of a table holds is that all of its answer does.
use Rattle.std.proofs.Common.{◌≡◌, inl, inr, ℕ, List, [], ◌∷◌, map, Bool, false, IsTrue, Option, Some, None, refl, sym, ap, subst, ◌∙◌}
use Rattle.std.specs.Prelude.{◌↔◌}
use Rattle.std.specs.declared.cmp.Ordering.{Ordering}
use Rattle.std.specs.Ordering.{eq_by_cmp}
use Rattle.std.specs.Cmp.{IsTotalOrder, eq_by_cmp_equiv}
use Rattle.std.specs.List.{AllByRecursion, filter}
use Rattle.std.specs.List.Sorted.{IsPermutation}
use Rattle.std.specs.FinMap.{find, get, from_entries, get-from_entries, IsAntisymmetric}
use Rattle.std.proofs.lemmas.Bool.{cases_Bool}
use Rattle.std.proofs.lemmas.Cmp.{int_cmp_total, nat_list_cmp_total}
use Rattle.std.proofs.lemmas.Map.Lookups.{exact_signed, exact_bytes}
use Rattle.std.proofs.lemmas.List.Sorted.{IsPermutation-sym}
use Rattle.cs_order.specs.Facts.{equal_from}
use Rattle.sqlite.specs.Order.{Row}
use Rattle.sqlite.specs.Effect.{Database}
use Rattle.sqlite.specs.State.{State, Shown}
use Rattle.sqlite.specs.Term.{Term}
use Rattle.sqlite.proofs.Callers.{reads_as}
use Rattle.sqlite_rules.specs.Lists.{Has}
use Rattle.sqlite_rules.proofs.ListLemmas.{all_has, all_from}
use Rattle.sqlite_value.specs.declared.value.Value.TheVariants.{Null}
use Rattle.cs_value.specs.declared.catalog.TableDef.{TableDef}
use Rattle.cs_value.specs.Catalog.{AreTables}
use Rattle.cs_store.specs.Contents.{Contents}
use Rattle.cs_store.specs.Whole.{AreJudged, AtTable, IsName, IsPresent, IsWhole, StoresChange, StoresRow, log_bodies}
use Rattle.cs_store.specs.WholeLaws.{OnePresent}
use Rattle.cs_sql.specs.schema.Schemas.{store_schema}
use Rattle.cs_sql.specs.statements.Tables.{IsRow, IsMeta, IsLog, IsMapped, IsKept, contents_in, row_pair, value_pair, entry_pair, all_text}
use Rattle.cs_sql.specs.statements.Steps.{IsReady, Stays}
use Rattle.cs_sql.specs.statements.Checked.{HasOwn, ShowsOwn, part_of}
use Rattle.cs_sql.specs.declared.statements.checking.Unordered.{Unordered}
use Rattle.cs_sql.specs.declared.statements.checking.Unordered.TheVariants as own
use Rattle.cs_sql.specs.declared.parts.Part.{Part}
use Rattle.cs_sql.specs.declared.parts.Part.TheVariants as part
use Rattle.cs_sql.proofs.StatementsLemmas.Meanings.{one_column, place_terms, all_is, all_plain}
use Rattle.cs_sql.proofs.StatementsLemmas.Answers.{place_total, place_exact, shown, answer_is, passes_on}
use Rattle.cs_sql.proofs.StatementsLemmas.Orders.{all_permutation, all_map, all_unmap, apart_map, find_had, tied}

pub filter_none : (params : Row) (es : List Row) → filter (passes_on [] params) es ≡ es
filter_none params [] = refl
filter_none params (r ∷ es) = ap (λ rows. r ∷ rows) (filter_none params es)

has_map : {A B : Type 0} (f : A → B) (xs : List A) (x : A) → Has xs x → Has (map f xs) (f x)
has_map f [] x h = absurd h
has_map f (y ∷ xs) x (inl same) = inl (ap f same)
has_map f (y ∷ xs) x (inr later) = inr (has_map f xs x later)

module _ {K X : Type 0} {R : K → K → Ordering} (total : IsTotalOrder R) (exact : IsAntisymmetric R) (entry : Row → K × X) (Is : Row → Type 0) (project : List Term) (P : K → X → Type 0) (Q : Row → Type 0)
    (shows : (r : Row) → Is r → Q (shown project [] r) ↔ P (entry r).0 (entry r).1) where
  found_holds : (es : List Row) → AllByRecursion (λ r. P (entry r).0 (entry r).1) es → (k : K) (x : X) → find R k (map entry es) ≡ Some x → P k x
  found_holds [] all k x is = let no : ◌≡◌ {A = Option X} None (Some x) = is in absurd cc
  found_holds (r ∷ es) all k x is = elim (cases_Bool (eq_by_cmp R k (entry r).0)) [
    | inl here ↦
        let same : k ≡ (entry r).0 = exact k (entry r).0 (equal_from _ here) in
        let value : ◌≡◌ {A = Option X} (Some (entry r).1) (Some x) = rw here at is in
        let one : (entry r).1 ≡ x = cc in
        subst (λ (q : K). P q x) (sym same) (subst (λ (v : X). P (entry r).0 v) one all.0)
    | inr other ↦ found_holds es all.1 k x (rw other at is)
  ]

  holds : (es rows : List Row) → IsMapped R entry Is es → IsPermutation (map (shown project []) (filter (passes_on [] []) es)) rows
      → AllByRecursion Q rows ↔ ((k : K) (x : X) → get (from_entries {R = R} (map entry es)) k ≡ Some x → P k x)
  holds es rows m given =
      let same : IsPermutation (map (shown project []) es) rows = subst (λ xs. IsPermutation (map (shown project []) xs) rows) (filter_none [] es) given in
      let back = IsPermutation-sym (map (shown project []) es) rows same in
      let apart = apart_map (tied total exact) entry es m.keys_apart in (
        λ all k x is.
            let shown_all = all_unmap Q (shown project []) es (all_permutation Q rows (map (shown project []) es) back all) in
            found_holds es (all_from _ es (λ r h. (shows r (all_has Is es r m.typed h)).0 (all_has _ es r shown_all h))) k x (sym (get-from_entries total (map entry es) k) ∙ is),
        λ each.
            all_permutation Q (map (shown project []) es) rows same
            (all_map Q (shown project []) es (all_from _ es (λ r h. (shows r (all_has Is es r m.typed h)).1
            (each (entry r).0 (entry r).1 (get-from_entries total (map entry es) (entry r).0 ∙ find_had total exact (map entry es) apart (entry r).0 (entry r) (has_map entry es r h) ((eq_by_cmp_equiv total).refl (entry r).0)))))),
      )

pub through : {A B C : Type 0} → A ↔ B → B ↔ C → A ↔ C
through p q = (λ a. q.0 (p.0 a), λ c. p.1 (q.1 c))

rows_hold : (tables : List TableDef) (old new : State) (rows : List Row) → IsKept old.now → Shown (all_text part.Rows) [] old new rows → AllByRecursion (ShowsOwn own.Rows tables) rows ↔ HasOwn own.Rows tables (contents_in old.now.trees)
rows_hold tables old new rows has h =
    let a = reads_as (all_text part.Rows) [] old new store_schema has.schema _ (all_is part.Rows).0 (all_plain part.Rows) (all_is part.Rows).1 rows h in
    holds place_total place_exact row_pair IsRow place_terms (λ place body. AtTable StoresRow tables place body) (ShowsOwn own.Rows tables) (λ r it. rw it.4 (λ q. q, λ q. q)) (old.now.trees 0) rows has.rows
    (answer_is 0 [] place_terms [] old.now.trees [] rows (a.answer Null))

pending_hold : (tables : List TableDef) (old new : State) (rows : List Row) → IsKept old.now → Shown (all_text part.Pending) [] old new rows → AllByRecursion (ShowsOwn own.Pending tables) rows ↔ HasOwn own.Pending tables (contents_in old.now.trees)
pending_hold tables old new rows has h =
    let a = reads_as (all_text part.Pending) [] old new store_schema has.schema _ (all_is part.Pending).0 (all_plain part.Pending) (all_is part.Pending).1 rows h in
    holds place_total place_exact row_pair IsRow place_terms (λ place body. AtTable StoresChange tables place body) (ShowsOwn own.Pending tables) (λ r it. rw it.4 (λ q. q, λ q. q)) (old.now.trees 5) rows has.pending
    (answer_is 5 [] place_terms [] old.now.trees [] rows (a.answer Null))

names_hold : (tables : List TableDef) (old new : State) (rows : List Row) → IsKept old.now → Shown (all_text part.Meta) [] old new rows → AllByRecursion (ShowsOwn own.Meta tables) rows ↔ HasOwn own.Meta tables (contents_in old.now.trees)
names_hold tables old new rows has h =
    let a = reads_as (all_text part.Meta) [] old new store_schema has.schema _ (all_is part.Meta).0 (all_plain part.Meta) (all_is part.Meta).1 rows h in
    holds nat_list_cmp_total exact_bytes value_pair IsMeta (one_column 1) (λ name value. IsName name) (ShowsOwn own.Meta tables) (λ r it. rw it.3 (λ q. q, λ q. q)) (old.now.trees 2) rows has.meta
    (answer_is 2 [] (one_column 1) [] old.now.trees [] rows (a.answer Null))

part_holds : (p : Unordered) (tables : List TableDef) (old new : State) (rows : List Row) → IsKept old.now → Shown (all_text (part_of p)) [] old new rows → AllByRecursion (ShowsOwn p tables) rows ↔ HasOwn p tables (contents_in old.now.trees)
part_holds own.Rows tables old new rows has h = rows_hold tables old new rows has h
part_holds own.Pending tables old new rows has h = pending_hold tables old new rows has h
part_holds own.Meta tables old new rows has h = names_hold tables old new rows has h

-- what a judge that was begun on the part tells of all its rows
pub judged : (p : Unordered) (tables others : List TableDef) (kind : Unordered) (all_own : Bool) (sql : List ℕ) (old new : State) (rows : List Row) → sql ≡ all_text (part_of p) → IsKept old.now → Shown sql [] old new rows → kind ≡ p → others ≡ tables
    → (IsTrue all_own ↔ AllByRecursion (ShowsOwn kind others) rows) → IsTrue all_own ↔ HasOwn p tables (contents_in old.now.trees)
judged p tables others kind all_own sql old new rows text has h same these all =
    through (subst (λ (k : Unordered). IsTrue all_own ↔ AllByRecursion (ShowsOwn k tables) rows) same (subst (λ (t : List TableDef). IsTrue all_own ↔ AllByRecursion (ShowsOwn kind t) rows) these all))
    (part_holds p tables old new rows has (subst (λ (s : List ℕ). Shown s [] old new rows) text h))

-- ---- one part after another

pub ready_stays : (a b : State) → (IsTrue a.is_open → IsReady a) → Stays a b → IsTrue b.is_open → IsReady b
ready_stays a b ready stays opened =
    let was = ready (stays.was_open opened) in
    record { kept = subst IsKept (sym (stays.now opened)) was.kept; settled = stays.committed opened ∙ was.settled ∙ sym (stays.now opened) }

-- where the log decodes, rows and pending changes are by the tables that it leaves
pub all_whole : OnePresent → (opening present : List TableDef) (s0 s1 s2 s3 : State) (rows pending meta good : Bool) → AreTables opening → IsTrue s0.is_open → IsPresent opening (contents_in s0.now.trees) present
    → IsTrue s1.is_open × (IsTrue rows ↔ HasOwn own.Rows present (contents_in s1.now.trees)) → IsTrue s2.is_open × (IsTrue pending ↔ HasOwn own.Pending present (contents_in s2.now.trees))
    → IsTrue s3.is_open × (IsTrue meta ↔ HasOwn own.Meta present (contents_in s3.now.trees))
    → Stays s0 s1 → Stays s1 s2 → Stays s2 s3 → IsTrue good ↔ (IsTrue rows × IsTrue pending × IsTrue meta)
    → IsTrue s0.is_open × (IsTrue good ↔ IsWhole opening (contents_in s0.now.trees))
all_whole one opening present s0 s1 s2 s3 rows pending meta good are opened decodes a b d f g h all_are =
    let first : s1.now ≡ s0.now = f.now a.0 in
    let second : s2.now ≡ s0.now = g.now b.0 ∙ first in
    let third : s3.now ≡ s0.now = h.now d.0 ∙ second in
    let r = subst (λ (db : Database). IsTrue rows ↔ HasOwn own.Rows present (contents_in db.trees)) first a.1 in
    let p = subst (λ (db : Database). IsTrue pending ↔ HasOwn own.Pending present (contents_in db.trees)) second b.1 in
    let m = subst (λ (db : Database). IsTrue meta ↔ HasOwn own.Meta present (contents_in db.trees)) third d.1 in (
      opened,
      (
        λ t. let all = all_are.0 t in record { present = present; entries = decodes; rows = r.0 all.0; pending = p.0 all.1; names = m.0 all.2 },
        λ whole.
            let same : whole.present ≡ present = one opening whole.present present (log_bodies (contents_in s0.now.trees)) are whole.entries decodes in
            all_are.1 (
              r.1 (subst (λ (t : List TableDef). HasOwn own.Rows t (contents_in s0.now.trees)) same whole.rows),
              p.1 (subst (λ (t : List TableDef). HasOwn own.Pending t (contents_in s0.now.trees)) same whole.pending),
              m.1 whole.names,
            ),
      ),
    )

-- where it doesn't, nothing is whole
pub none_whole : (opening : List TableDef) (contents : Contents) → AreJudged opening (log_bodies contents) false opening → IsTrue false ↔ IsWhole opening contents
none_whole opening contents never = (λ no. absurd cc, λ whole. absurd (never whole.present whole.entries))
