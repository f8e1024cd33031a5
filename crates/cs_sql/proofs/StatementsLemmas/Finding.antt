-- What the queries find.
use Rattle.std.proofs.Common.{◌≡◌, inl, inr, ℕ, ℤ, List, [], ◌∷◌, map, Bool, Some, Ok, Err, Result, IfOk, IfErr, IsTrue, refl, sym, ap, subst, ◌∙◌, arith}
use Rattle.std.specs.Global.{Vec}
use Rattle.std.specs.declared.cmp.Ordering.{Ordering}
use Rattle.std.specs.List.{filter}
use Rattle.std.specs.List.Sorted.{IsPermutation}
use Rattle.std.proofs.lemmas.List.Sorted.{length_permutation}
use Rattle.std.specs.FinMap.{get, get-from_entries, IsAntisymmetric, from_entries}
use Rattle.std.specs.Ordering.{eq_by_cmp}
use Rattle.std.specs.Cmp.{IsTotalOrder}
use Rattle.std.proofs.lemmas.Cmp.{int_cmp_total, nat_list_cmp_total}
use Rattle.std.proofs.lemmas.Map.Lookups.{exact_signed, exact_bytes}
use Rattle.sqlite.specs.Order.{Row}
use Rattle.sqlite.specs.Term.{Term}
use Rattle.sqlite.specs.Clock.{timed}
use Rattle.sqlite.specs.Schema.{Schema}
use Rattle.sqlite.specs.declared.error.Error.{Error}
use Rattle.sqlite.specs.Effect.{Database}
use Rattle.sqlite.specs.Listing.{understood}
use Rattle.sqlite.specs.State.{State, HasCleanDisk, Survives, Shown, ShowsRows, FailsToQuery, FailsToShow, IsNotRun, IsUnchanged, IsRolledBack, CommitsShowing}
use Rattle.sqlite.proofs.Callers.{IsPlain, reads_as, one_permutation, never_commits}
use Rattle.sqlite.proofs.StateLemmas.{survives_then}
use Rattle.sqlite_rules.proofs.ListLemmas.{all_has, all_from}
use Rattle.sqlite_value.specs.declared.value.Value.TheVariants.{Null, Int, Text as Words}
use Rattle.cs_store.specs.Contents.{Bodies}
use Rattle.cs_sql.specs.declared.statements.spaces.Space.{Space}
use Rattle.cs_sql.specs.schema.Schemas.{store_schema}
use Rattle.cs_sql.specs.statements.Tables.{IsRow, IsMeta, IsLog, IsMapped, IsKept, contents_in, row_pair, value_pair, entry_pair, select_text, select_meta_text, select_log_text}
use Rattle.cs_sql.specs.statements.Steps.{IsReady, IsOurs, Stays, first_read, body_read, item_read, placed}
use Rattle.cs_sql.proofs.StatementsLemmas.Meanings.{select_is, select_plain, select_meta_is, select_meta_plain, select_log_is, select_log_plain, tree_of, at_place, at_name, at_version, one_column, item_terms}
use Rattle.cs_sql.proofs.StatementsLemmas.Answers.{place_total, place_exact, params_at, passes_on, passes_is, name_passes, version_passes, shown, answer_is}
use Rattle.cs_sql.proofs.StatementsLemmas.Apart.{none, one, finds_one}
use Rattle.cs_sql.proofs.StatementsLemmas.Spaces.{answer_at, mapped_at, placed_is}

-- ---- one body

no_rows : {X : Type 0} (xs : List X) → IsPermutation [] xs → xs ≡ []
no_rows [] same = refl
no_rows (x ∷ xs) same = absurd (let n = length_permutation [] (x ∷ xs) same in omega (arith, n))

module _ {K : Type 0} {R : K → K → Ordering} (total : IsTotalOrder R) (exact : IsAntisymmetric R) {X : Type 0} (entry : Row → K × X) (Is : Row → Type 0) (project : List Term) (params : Row) (reads : Row → X)
    (shows : (r : Row) → Is r → reads (shown project params r) ≡ (entry r).1) where
  finds_body : (p : Row → Bool) (k : K) (es rows : List Row) → IsMapped R entry Is es → ((r : Row) → Is r → p r ≡ eq_by_cmp R k (entry r).0) → IsPermutation (map (shown project params) (filter p es)) rows
      → first_read reads rows ≡ get (from_entries {R = R} (map entry es)) k
  finds_body p k es rows m is same = elim (finds_one total exact entry Is p k es (all_from _ es (λ r h. is r (all_has _ es r m.typed h))) m.typed m.keys_apart) [
    | none empty lacks ↦ ap (first_read reads) (no_rows rows (rw empty at same)) ∙ sym (get-from_entries total (map entry es) k ∙ lacks)
    | one r it single found ↦ ap (first_read reads) (one_permutation (shown project params r) rows (rw single at same)) ∙ ap Some (shows r it) ∙ sym (get-from_entries total (map entry es) k ∙ found)
  ]

module _ (old new : State) (has : IsKept old.now) (rows : List Row) where
  pub selects_at : (space : Space) (table : ℤ) (key : List ℕ) → Shown (select_text space) (params_at table key) old new rows → first_read body_read rows ≡ get (placed space (contents_in old.now.trees)) (table, key)
  selects_at space table key h =
      let a = reads_as (select_text space) (params_at table key) old new store_schema has.schema _ (select_is space).0 (select_plain space) (select_is space).1 rows h in
      let es = old.now.trees (tree_of space) in
      finds_body place_total place_exact row_pair IsRow (one_column 3) (params_at table key) body_read (λ r it. rw it.4 refl) (passes_on at_place (params_at table key)) (table, key) es rows (mapped_at space old.now has)
      (λ r it. passes_is table key [] r it) (answer_at space at_place (one_column 3) old.now.trees (params_at table key) rows (a.answer Null))
      ∙ ap (λ (m : Bodies). get m (table, key)) (sym (placed_is space old.now.trees))

  pub selects_meta : (name : List ℕ) → Shown select_meta_text (Words name ∷ []) old new rows → first_read body_read rows ≡ get (contents_in old.now.trees).meta name
  selects_meta name h =
      let a = reads_as select_meta_text (Words name ∷ []) old new store_schema has.schema _ select_meta_is.0 select_meta_plain select_meta_is.1 rows h in
      finds_body nat_list_cmp_total exact_bytes value_pair IsMeta (one_column 2) (Words name ∷ []) body_read (λ r it. rw it.3 refl) (passes_on at_name (Words name ∷ [])) name (old.now.trees 2) rows has.meta
      (λ r it. name_passes name [] r it) (answer_is 2 at_name (one_column 2) [] old.now.trees (Words name ∷ []) rows (a.answer Null))

  pub selects_log : (version : ℤ) → Shown select_log_text (Int version ∷ []) old new rows → first_read item_read rows ≡ get (contents_in old.now.trees).log version
  selects_log version h =
      let a = reads_as select_log_text (Int version ∷ []) old new store_schema has.schema _ select_log_is.0 select_log_plain select_log_is.1 rows h in
      finds_body int_cmp_total exact_signed entry_pair IsLog item_terms (Int version ∷ []) item_read (λ r it. rw it.4 refl) (passes_on at_version (Int version ∷ [])) version (old.now.trees 4) rows has.log
      (λ r it. version_passes version [] r it) (answer_is 4 at_version item_terms [] old.now.trees (Int version ∷ []) rows (a.answer Null))

-- ---- nothing changes

pub stays_unchanged : (old new : State) → IsUnchanged old new → Stays old new
stays_unchanged old new h = record { was_open = λ _. h.0.was_open; now = λ _. h.0.now_is; committed = λ _. h.0.committed_is }

stays_undone : (old new : State) → (IsTrue old.is_open → old.committed ≡ old.now) → IsRolledBack old new → Stays old new
stays_undone old new settled h = record { was_open = h.was_open; now = λ o. (h.undone o).0 ∙ settled (h.was_open o); committed = λ o. (h.undone o).1 }

pub stays_unrun : (old new : State) (sql : List ℕ) (params : Row) (e : Error) → (IsTrue old.is_open → old.committed ≡ old.now) → IsNotRun old new sql params e → Stays old new
unfolding IsNotRun
stays_unrun old new sql params e settled (inl h) = stays_unchanged old new h.1
stays_unrun old new sql params e settled (inr h) = stays_undone old new settled h.3

pub stays_then : (a b c : State) → Stays a b → Stays b c → Stays a c
stays_then a b c p q = record {
  was_open = λ o. p.was_open (q.was_open o);
  now = λ o. q.now o ∙ p.now (q.was_open o);
  committed = λ o. q.committed o ∙ p.committed (q.was_open o);
}

module _ (sql : List ℕ) (params : Row) (old new : State) (plain : IsPlain (understood old.now.schema sql)) where
  pub shown_unchanged : (rows : List Row) → Shown sql params old new rows → IsUnchanged old new
  unfolding Shown
  shown_unchanged rows h = let bare = subst IsPlain h.1.is plain in let it = subst (ShowsRows old new sql h.0 (timed params h.0.formats h.1.now) rows) bare.0 h.2 in it.3

  pub stays_failed : (e : Error) → (IsTrue old.is_open → old.committed ≡ old.now) → FailsToQuery sql params old new e → Stays old new
  unfolding FailsToQuery
  stays_failed e settled (inl h) = stays_unrun old new sql params e settled h
  stays_failed e settled (inr h) = let bare = subst IsPlain h.1.is plain in let it = subst (FailsToShow old new sql h.0 (timed params h.0.formats h.1.now) e) bare.0 h.2 in stays_unchanged old new it.3

-- ---- a query after a probe

pub ready_ours : (s : State) → IsReady s → IsOurs s
ready_ours s r = record { schema = r.kept.schema; settled = r.settled }

pub ready_all : (s : State) → (HasCleanDisk s → IsTrue s.is_open → IsReady s) → HasCleanDisk s → IsTrue s.is_open → IsOurs s
ready_all s ready clean opened = ready_ours s (ready clean opened)

module _ (sql : List ℕ) (plain : IsPlain (understood store_schema sql)) (params : Row) (start mid end : State) (ours : HasCleanDisk start → IsTrue start.is_open → IsOurs start)
    (probed : HasCleanDisk mid → IsUnchanged start mid) (first : Survives start mid (λ _. ⊥)) (second : Survives mid end (CommitsShowing sql params mid)) where
  pub probed_schema : HasCleanDisk mid → mid.now.schema ≡ store_schema
  probed_schema clean = let u = probed clean in ap (λ (d : Database). d.schema) u.0.now_is ∙ (ours (omega (arith, first.clean)) u.0.was_open).schema

  mid_settled : HasCleanDisk mid → mid.committed ≡ mid.now
  mid_settled clean = let u = probed clean in u.0.committed_is ∙ (ours (omega (arith, first.clean)) u.0.was_open).settled ∙ sym u.0.now_is

  mid_plain : HasCleanDisk mid → IsPlain (understood mid.now.schema sql)
  mid_plain clean = subst (λ (s : Schema). IsPlain (understood s sql)) (sym (probed_schema clean)) plain

  pub query_quiet : Survives start end (λ _. ⊥)
  query_quiet = survives_then start mid end (λ _. ⊥) (CommitsShowing sql params mid) (λ _. ⊥) (λ _ db none. none) (λ clean db commits. never_commits sql params mid db (mid_plain (omega (arith, second.clean))) commits) first second

  pub query_failed : (e : Error) → HasCleanDisk end → FailsToQuery sql params mid end e → Stays start end
  query_failed e clean h =
      let late : HasCleanDisk mid = omega (arith, second.clean) in stays_then start mid end (stays_unchanged start mid (probed late)) (stays_failed sql params mid end (mid_plain late) e (λ _. mid_settled late) h)

  pub query_shown : (rows : List Row) → HasCleanDisk end → Shown sql params mid end rows → Stays start end
  query_shown rows clean h =
      let late : HasCleanDisk mid = omega (arith, second.clean) in stays_then start mid end (stays_unchanged start mid (probed late)) (stays_unchanged mid end (shown_unchanged sql params mid end (mid_plain late) rows h))

  pub query_stays : (r : Result (Vec Row) Error) → HasCleanDisk end → IfOk r (λ rows. Shown sql params mid end rows.items) → IfErr r (FailsToQuery sql params mid end) → Stays start end
  query_stays (Ok rows) clean shown fails = query_shown rows.items clean shown
  query_stays (Err e) clean shown fails = query_failed e clean fails

pub ok_then : {T E : Type 0} (P Q : T → Type 0) (r : Result T E) → ((x : T) → P x → Q x) → IfOk r P → IfOk r Q
ok_then P Q (Ok x) f h = f x h
ok_then P Q (Err e) f h = tt
