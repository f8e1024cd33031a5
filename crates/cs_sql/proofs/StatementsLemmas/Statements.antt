-- What the statements make of the contents.
use Rattle.std.proofs.Common.{◌≡◌, Option, Some, ◌⊎◌, inl, inr, ℕ, ℤ, List, [], ◌∷◌, map, Bool, true, false, not, ◌&&◌, cond, None, Ok, Err, Result, OnOk, IsTrue, refl, sym, ap, subst, ◌∙◌, arith}
use Rattle.std.specs.List.{filter, AllByRecursion}
use Rattle.std.specs.FinMap.{get, get-from_entries, insert, remove}
use Rattle.std.specs.Ordering.{is_eq, eq_by_cmp, int_cmp}
use Rattle.std.specs.Cmp.{eq_by_cmp_equiv}
use Rattle.std.proofs.lemmas.Cmp.{int_cmp_total, nat_list_cmp_total}
use Rattle.std.proofs.lemmas.Map.Lookups.{exact_signed, exact_bytes}
use Rattle.sqlite.specs.declared.error.Error.{Error}
use Rattle.sqlite.specs.Order.{Row}
use Rattle.sqlite.specs.Tree.{Trees, rowid, put_row}
use Rattle.sqlite.specs.Effect.{Database, IsDatabase}
use Rattle.sqlite.specs.Does.{Tally, Does, OnRows}
use Rattle.sqlite.specs.declared.run.Mode.{Mode}
use Rattle.sqlite.specs.Table.{Table}
use Rattle.sqlite.specs.Query.{Query, IsAnswer}
use Rattle.sqlite.specs.Program.{overlay}
use Rattle.sqlite_rules.specs.Edit.{Applies, taken_by}
use Rattle.sqlite_rules.specs.Action.{works}
use Rattle.sqlite.specs.Rows.{Written}
use Rattle.sqlite.specs.Edit.{edit_of, next_rowid, put_all, is_taken, are_fresh}
use Rattle.sqlite.specs.Cast.{cast}
use Rattle.sqlite.specs.Ops.{unary}
use Rattle.sqlite.specs.Kind.TheVariants.{Integer}
use Rattle.sqlite.specs.Rowids.TheVariants.{Given, Chosen}
use Rattle.sqlite.specs.Command.TheVariants.{Delete, Insert}
use Rattle.sqlite.specs.Source.TheVariants.{Values}
use Rattle.sqlite.specs.Listing.{understood}
use Rattle.sqlite.specs.State.{State, mode_of, Executes, ExecutesInside, Shows}
use Rattle.sqlite.proofs.Callers.{IsPlain, command_of, runs_as, statement_of, one_step}
use Rattle.sqlite_rules.specs.Calls.{ids_of}
use Rattle.sqlite_rules.proofs.ListLemmas.{all_has, all_from}
use Rattle.sqlite_schema.specs.declared.command.Source.{Source}
use Rattle.sqlite_schema.specs.declared.program.Program.{Program}
use Rattle.sqlite_trees.specs.View.{is_int}
use Rattle.sqlite_value.specs.declared.value.Value.{Value}
use Rattle.sqlite_value.specs.declared.value.Value.TheVariants.{Null, Int, Blob, Text as Words}
use Rattle.sqlite_value.specs.Order.{value_cmp}
use Rattle.sqlite_value.proofs.OrderLemmas.{value_cmp-Int}
use Rattle.cs_order.specs.Order.{by_bytes}
use Rattle.cs_store.specs.Contents.{Bodies, Contents, LogItem, place_cmp}
use Rattle.cs_sql.specs.schema.Schemas.{store_schema, meta_table, log_table}
use Rattle.cs_sql.specs.declared.statements.spaces.Space.{Space}
use Rattle.cs_sql.specs.statements.Tables.{number_of, remove_text, insert_text, remove_meta_text, insert_meta_text, insert_log_text, IsRow, IsMeta, IsLog, IsMapped, IsKept, contents_in, row_pair, value_pair, entry_pair}
use Rattle.cs_sql.specs.statements.Steps.{IsInside, Edits, placed, with_placed, without_at, with_at, without_named, with_named, with_log}
use Rattle.cs_sql.proofs.StatementsLemmas.Meanings.{index_of, table_of, tree_of, remove_is, remove_plain, query_at, one_column, meta_at, at_place, at_name, insert_is, insert_plain, row_terms, remove_meta_is, remove_meta_plain, insert_meta_is, insert_meta_plain, meta_terms, insert_log_is, insert_log_plain, log_terms}
use Rattle.cs_sql.proofs.StatementsLemmas.Answers.{place_total, place_exact, params_at, passes, passes_on, passes_is, name_passes, answer_is}
use Rattle.cs_sql.proofs.StatementsLemmas.Apart.{mapped_without, mapped_with, none_at, find_none, both_or}
use Rattle.cs_sql.proofs.StatementsLemmas.Spaces.{answer_at, kept_at, mapped_at, placed_is, stands}
use Rattle.cs_sql.proofs.StatementsLemmas.Removal.{removed_is}
use Rattle.cs_sql.proofs.StatementsLemmas.Keyed.{map_without, map_with}

keyed : (Is : Row → Type 0) → ((r : Row) → Is r → is_int (rowid r) ≡ true) → (es : List Row) → AllByRecursion Is es → AllByRecursion (λ r. is_int (rowid r) ≡ true) es
keyed Is whole es all = all_from _ es (λ r h. whole r (all_has _ es r all h))

-- a part that gave a value did not stop on the way
pub went : {B E R : Type 0} {b : B} {Stops : E → Type 0} → ((stop : E) × Stops stop × (Ok b ≡ Err stop)) ⊎ R → R
went (inl stopped) = absurd (let e = stopped.2 in cc)
went (inr on) = on

pub same_value : {B E : Type 0} {a b : B} → ◌≡◌ {A = Result B E} (Ok a) (Ok b) → a ≡ b
same_value e = cc

-- ---- DELETE

module _ (limit : Option ℕ) (mode : Mode) (table : Table) (given : Row) (db : Trees) (at : ℕ) (q : Query) where
  -- what a DELETE gives, before anything is said of its terms
  pub deletes_on : (tally : Tally) (after : Database) → OnRows (record { limit = limit; keys = mode.keys; schema = store_schema; table = table; params = given }) mode None (Delete at (record { lets = []; body = q })) db (Ok (tally, after))
      → ((taken : List Row) → works store_schema mode.keys 0 table.tree taken [] ≡ [])
      → (after.schema ≡ store_schema) × ((found : List Row) × IsAnswer q (overlay db []) given found × Applies store_schema mode.keys db (edit_of db table (ids_of found) Given 0 []) after.trees)
  deletes_on tally after done none =
      let written = went done in
      let now = ap (λ (p : Tally × Database). p.1) (same_value (went (went written.2).2).2) in
      let found = went written.1 in
      let left = went found.2 in
      let trees : written.0.trees ≡ left.0 = ap (λ (it : Written). it.trees) (same_value left.2) in
      let step = one_step store_schema mode.keys db left.0 (edit_of db table (ids_of found.0) Given 0 []) (none (taken_by db (edit_of db table (ids_of found.0) Given 0 []))) left.1 in
      let in_now : after.trees ≡ left.0 = ap (λ (d : Database). d.trees) now ∙ trees in
      (ap (λ (d : Database). d.schema) now, (found.0, found.1.answer Null, subst (Applies store_schema mode.keys db (edit_of db table (ids_of found.0) Given 0 [])) (sym in_now) step))

module _ (space : Space) (old new : State) (table : ℤ) (key : List ℕ) (has : IsKept old.now) where
  pub removes : (count : ℕ) → Executes (remove_text space) (params_at table key) old new (Ok count) → IsKept new.now × (contents_in new.now.trees ≡ without_at space table key (contents_in old.now.trees))
  removes count h =
      let given = params_at table key in
      let db = old.now.trees in
      let es = db (tree_of space) in
      let command = Delete (index_of space) (record { lets = []; body = query_at space 0 }) in
      let w = runs_as (remove_text space) given old new store_schema has.schema command (remove_is space) (remove_plain space) count h in
      let text = statement_of (remove_text space) (understood store_schema (remove_text space)) in
      let did = deletes_on old.step_limit (mode_of old) (table_of space) given db (index_of space) (query_at space 0) w.tally new.now
      (stands space old.step_limit (mode_of old) given db (λ task. OnRows task (mode_of old) None command db) (Ok (w.tally, new.now))
      (subst (λ s. Does old.step_limit (mode_of old) given (record old.now { schema = s }) text None command (Ok (w.tally, new.now))) has.schema w.changed)) (λ _. refl) in
      let step = did.1.2 in
      let p = passes given in
      let mapped = mapped_at space old.now has in
      let rows : new.now.trees (tree_of space) ≡ filter (λ r. not (p r)) es = step.rows ∙ removed_is p es mapped.ids_apart (keyed IsRow (λ r it. rw it.4 refl) es mapped.typed) did.1.0 (answer_at space at_place (one_column 0) db given did.1.0 did.1.1) in
      let map_is = map_without place_total place_exact row_pair p (table, key) es (all_from _ es (λ r m. passes_is table key [] r (all_has _ es r mapped.typed m))) in
      let left = kept_at space old.now new.now (filter (λ r. not (p r)) es) has did.0 rows (mapped_without place_total place_exact row_pair IsRow (λ r. not (p r)) es mapped) step.tables in
      (left.0, left.1 ∙ ap (λ (m : Bodies). with_placed space m (contents_in db)) (map_is ∙ ap (λ (m : Bodies). remove m (table, key)) (sym (placed_is space db))))

module _ (old new : State) (name : List ℕ) (has : IsKept old.now) where
  pub removes_meta : (count : ℕ) → Executes remove_meta_text (Words name ∷ []) old new (Ok count) → IsKept new.now × (contents_in new.now.trees ≡ without_named name (contents_in old.now.trees))
  removes_meta count h =
      let given = Words name ∷ [] in
      let db = old.now.trees in
      let command = Delete 1 (record { lets = []; body = meta_at 0 }) in
      let w = runs_as remove_meta_text given old new store_schema has.schema command remove_meta_is remove_meta_plain count h in
      let text = statement_of remove_meta_text (understood store_schema remove_meta_text) in
      let did = deletes_on old.step_limit (mode_of old) (record meta_table { tree = 2 }) given db 1 (meta_at 0) w.tally new.now
      (subst (λ s. Does old.step_limit (mode_of old) given (record old.now { schema = s }) text None command (Ok (w.tally, new.now))) has.schema w.changed) (λ _. refl) in
      let step = did.1.2 in
      let p = passes_on at_name given in
      let meta : new.now.trees 2 ≡ filter (λ r. not (p r)) (db 2) = step.rows ∙ removed_is p (db 2) has.meta.ids_apart (keyed IsMeta (λ r it. rw it.3 refl) (db 2) has.meta.typed) did.1.0 (answer_is 2 at_name (one_column 0) [] db given did.1.0 did.1.1) in
      let rows : new.now.trees 0 ≡ db 0 = step.tables.0 (λ e. omega (arith, e)) in
      let log : new.now.trees 4 ≡ db 4 = step.tables.1.1.0 (λ e. omega (arith, e)) in
      let pending : new.now.trees 5 ≡ db 5 = step.tables.1.1.1.0 (λ e. omega (arith, e)) in
      let map_is = map_without nat_list_cmp_total exact_bytes value_pair p name (db 2) (all_from _ (db 2) (λ r m. name_passes name [] r (all_has _ (db 2) r has.meta.typed m))) in (
        record {
          schema = did.0;
          rows = subst (IsMapped place_cmp row_pair IsRow) (sym rows) has.rows;
          meta = subst (IsMapped (by_bytes) value_pair IsMeta) (sym meta) (mapped_without nat_list_cmp_total exact_bytes value_pair IsMeta (λ r. not (p r)) (db 2) has.meta);
          log = subst (IsMapped int_cmp entry_pair IsLog) (sym log) has.log;
          pending = subst (IsMapped place_cmp row_pair IsRow) (sym pending) has.pending;
        },
        rw (rows, pending, meta, log, map_is) refl,
      )

-- ---- INSERT

either : (b : Bool) (x : Value) → cond b x x ≡ x
either true x = refl
either false x = refl

cast_null : cast Integer Null ≡ Null
unfolding unary
cast_null = either _ Null

cast_int : (n : ℤ) → cast Integer (Int n) ≡ Int n
unfolding unary
cast_int n = either _ (Int n)

not_false : (b : Bool) → (not b && true) ≡ true → b ≡ false
not_false true e = absurd cc
not_false false e = refl

module _ (space : Space) (old new : State) (table : ℤ) (key body : List ℕ) (has : IsKept old.now) where
  pub inserts : (count : ℕ) → get (placed space (contents_in old.now.trees)) (table, key) ≡ None → Executes (insert_text space) (Int table ∷ Blob key ∷ Blob body ∷ []) old new (Ok count)
      → IsKept new.now × (contents_in new.now.trees ≡ with_at space table key body (contents_in old.now.trees))
  inserts count absent h =
      let given = Int table ∷ Blob key ∷ Blob body ∷ [] in
      let db = old.now.trees in
      let es = db (tree_of space) in
      let command = Insert (index_of space) (Values row_terms 4) in
      let w = runs_as (insert_text space) given old new store_schema has.schema command (insert_is space) (insert_plain space) count h in
      let text = statement_of (insert_text space) (understood store_schema (insert_text space)) in
      let done = went (stands space old.step_limit (mode_of old) given db (λ task. OnRows task (mode_of old) None command db) (Ok (w.tally, new.now))
      (subst (λ s. Does old.step_limit (mode_of old) given (record old.now { schema = s }) text None command (Ok (w.tally, new.now))) has.schema w.changed)) in
      let now = ap (λ (p : Tally × Database). p.1) (same_value (went (went done.2).2).2) in
      let found = went done.1 in
      let put = went (went found.2).2 in
      let counted = went put.2 in
      let trees : done.0.trees ≡ put.0 = ap (λ (it : Written). it.trees) (same_value counted.2) ∙ same_value counted.1 in
      let edit = edit_of db (table_of space) [] Chosen 0 found.0 in
      let in_now : new.now.trees ≡ put.0 = ap (λ (d : Database). d.trees) now ∙ trees in
      let step = subst (Applies store_schema _ db edit) (sym in_now) (one_step store_schema _ db put.0 edit refl put.1) in
      let row : Row = Int (next_rowid es) ∷ Int table ∷ Blob key ∷ Blob body ∷ [] in
      let news : edit.news ≡ row ∷ [] = ap (λ all. (edit_of db (table_of space) [] Chosen 0 all).news) found.1.1 ∙ rw (cast_null, cast_int table) refl in
      let rows : new.now.trees (tree_of space) ≡ put_row row es = step.rows ∙ ap (put_all es) news in
      let free : is_taken es row ≡ false = not_false _ (subst (λ all. are_fresh es all ≡ true) news step.fresh) in
      let mapped = mapped_at space old.now has in
      let absent_in = ap (λ (m : Bodies). get m (table, key)) (sym (placed_is space db)) ∙ absent in
      let none = none_at place_total place_exact row_pair IsRow (table, key) es (sym (get-from_entries place_total (map row_pair es) (table, key)) ∙ absent_in) in
      let map_is = map_with place_total place_exact row_pair row es free none in
      let left = kept_at space old.now new.now (put_row row es) has (ap (λ (d : Database). d.schema) now) rows
      (mapped_with place_total place_exact row_pair IsRow row es free none (next_rowid es, table, key, body, refl) mapped) step.tables in
      (left.0, left.1 ∙ ap (λ (m : Bodies). with_placed space m (contents_in db)) (map_is ∙ ap (λ (m : Bodies). insert m (table, key) body) (sym (placed_is space db))))

module _ (old new : State) (name value : List ℕ) (has : IsKept old.now) where
  pub inserts_meta : (count : ℕ) → get (contents_in old.now.trees).meta name ≡ None → Executes insert_meta_text (Words name ∷ Blob value ∷ []) old new (Ok count)
      → IsKept new.now × (contents_in new.now.trees ≡ with_named name value (contents_in old.now.trees))
  inserts_meta count absent h =
      let given = Words name ∷ Blob value ∷ [] in
      let db = old.now.trees in
      let command = Insert 1 (Values meta_terms 3) in
      let w = runs_as insert_meta_text given old new store_schema has.schema command insert_meta_is insert_meta_plain count h in
      let text = statement_of insert_meta_text (understood store_schema insert_meta_text) in
      let done = went (subst (λ s. Does old.step_limit (mode_of old) given (record old.now { schema = s }) text None command (Ok (w.tally, new.now))) has.schema w.changed) in
      let now = ap (λ (p : Tally × Database). p.1) (same_value (went (went done.2).2).2) in
      let found = went done.1 in
      let put = went (went found.2).2 in
      let counted = went put.2 in
      let trees : done.0.trees ≡ put.0 = ap (λ (it : Written). it.trees) (same_value counted.2) ∙ same_value counted.1 in
      let table = record meta_table { tree = 2 } in
      let step = one_step store_schema _ db put.0 (edit_of db table [] Chosen 0 found.0) refl put.1 in
      let row : Row = Int (next_rowid (db 2)) ∷ Words name ∷ Blob value ∷ [] in
      let news : (edit_of db table [] Chosen 0 found.0).news ≡ row ∷ [] = ap (λ all. (edit_of db table [] Chosen 0 all).news) found.1.1 ∙ rw cast_null refl in
      let in_now : new.now.trees ≡ put.0 = ap (λ (d : Database). d.trees) now ∙ trees in
      let meta : new.now.trees 2 ≡ put_row row (db 2) = ap (λ (t : Trees). t 2) in_now ∙ step.rows ∙ ap (put_all (db 2)) news in
      let free : is_taken (db 2) row ≡ false = not_false _ (subst (λ all. are_fresh (db 2) all ≡ true) news step.fresh) in
      let rows : new.now.trees 0 ≡ db 0 = ap (λ (t : Trees). t 0) in_now ∙ step.tables.0 (λ e. omega (arith, e)) in
      let log : new.now.trees 4 ≡ db 4 = ap (λ (t : Trees). t 4) in_now ∙ step.tables.1.1.0 (λ e. omega (arith, e)) in
      let pending : new.now.trees 5 ≡ db 5 = ap (λ (t : Trees). t 5) in_now ∙ step.tables.1.1.1.0 (λ e. omega (arith, e)) in
      let none = none_at nat_list_cmp_total exact_bytes value_pair IsMeta name (db 2) (sym (get-from_entries nat_list_cmp_total (map value_pair (db 2)) name) ∙ absent) in
      let map_is = map_with nat_list_cmp_total exact_bytes value_pair row (db 2) free none in (
        record {
          schema = ap (λ (d : Database). d.schema) now;
          rows = subst (IsMapped place_cmp row_pair IsRow) (sym rows) has.rows;
          meta = subst (IsMapped (by_bytes) value_pair IsMeta) (sym meta) (mapped_with nat_list_cmp_total exact_bytes value_pair IsMeta row (db 2) free none (next_rowid (db 2), name, value, refl) has.meta);
          log = subst (IsMapped int_cmp entry_pair IsLog) (sym log) has.log;
          pending = subst (IsMapped place_cmp row_pair IsRow) (sym pending) has.pending;
        },
        rw (rows, pending, meta, log, map_is) refl,
      )

abbrev pub item : ℤ → ℤ → List ℕ → LogItem
item origin number body = record { origin = origin; number = number_of number; body = body }

-- a version is free where its rowid is
free_version : (version : ℤ) (rest : Row) (es : List Row) → is_taken es (Int version ∷ rest) ≡ false → AllByRecursion IsLog es → AllByRecursion (λ r. eq_by_cmp int_cmp version (entry_pair r).0 ≡ false) es
free_version version rest [] free is = tt
free_version version rest (r ∷ es) free is =
    let parts = both_or (is_eq (value_cmp (rowid r) (Int version))) (is_taken es (Int version ∷ rest)) free in
    let first : is_eq (int_cmp is.0.0 version) ≡ false = ap is_eq (sym (value_cmp-Int is.0.0 version)) ∙ (rw is.0.4 at parts.0) in
    (rw is.0.4 ((eq_by_cmp_equiv int_cmp_total).symm version is.0.0 ∙ first), free_version version rest es parts.1 is.1)

module _ (old new : State) (version origin number : ℤ) (body : List ℕ) (has : IsKept old.now) where
  pub inserts_log : (count : ℕ) → Executes insert_log_text (Int version ∷ Int origin ∷ Int number ∷ Blob body ∷ []) old new (Ok count)
      → (get (contents_in old.now.trees).log version ≡ None) × IsKept new.now × (contents_in new.now.trees ≡ with_log version (Some (item origin number body)) (contents_in old.now.trees))
  inserts_log count h =
      let given = Int version ∷ Int origin ∷ Int number ∷ Blob body ∷ [] in
      let db = old.now.trees in
      let command = Insert 2 (Values log_terms 5) in
      let w = runs_as insert_log_text given old new store_schema has.schema command insert_log_is insert_log_plain count h in
      let text = statement_of insert_log_text (understood store_schema insert_log_text) in
      let done = went (subst (λ s. Does old.step_limit (mode_of old) given (record old.now { schema = s }) text None command (Ok (w.tally, new.now))) has.schema w.changed) in
      let now = ap (λ (p : Tally × Database). p.1) (same_value (went (went done.2).2).2) in
      let found = went done.1 in
      let put = went (went found.2).2 in
      let counted = went put.2 in
      let trees : done.0.trees ≡ put.0 = ap (λ (it : Written). it.trees) (same_value counted.2) ∙ same_value counted.1 in
      let table = record log_table { tree = 4 } in
      let step = one_step store_schema _ db put.0 (edit_of db table [] Chosen 0 found.0) refl put.1 in
      let row : Row = Int version ∷ Null ∷ Int origin ∷ Int number ∷ Blob body ∷ [] in
      let news : (edit_of db table [] Chosen 0 found.0).news ≡ row ∷ [] = ap (λ all. (edit_of db table [] Chosen 0 all).news) found.1.1 ∙ rw (cast_null, cast_int version, cast_int origin, cast_int number) refl in
      let in_now : new.now.trees ≡ put.0 = ap (λ (d : Database). d.trees) now ∙ trees in
      let log : new.now.trees 4 ≡ put_row row (db 4) = ap (λ (t : Trees). t 4) in_now ∙ step.rows ∙ ap (put_all (db 4)) news in
      let free : is_taken (db 4) row ≡ false = not_false _ (subst (λ all. are_fresh (db 4) all ≡ true) news step.fresh) in
      let rows : new.now.trees 0 ≡ db 0 = ap (λ (t : Trees). t 0) in_now ∙ step.tables.0 (λ e. omega (arith, e)) in
      let meta : new.now.trees 2 ≡ db 2 = ap (λ (t : Trees). t 2) in_now ∙ step.tables.1.0 (λ e. omega (arith, e)) in
      let pending : new.now.trees 5 ≡ db 5 = ap (λ (t : Trees). t 5) in_now ∙ step.tables.1.1.1.0 (λ e. omega (arith, e)) in
      let none = free_version version (Null ∷ Int origin ∷ Int number ∷ Blob body ∷ []) (db 4) free has.log.typed in
      let map_is = map_with int_cmp_total exact_signed entry_pair row (db 4) free none in (
        get-from_entries int_cmp_total (map entry_pair (db 4)) version ∙ find_none int_cmp_total exact_signed entry_pair IsLog version (db 4) none,
        record {
          schema = ap (λ (d : Database). d.schema) now;
          rows = subst (IsMapped place_cmp row_pair IsRow) (sym rows) has.rows;
          meta = subst (IsMapped (by_bytes) value_pair IsMeta) (sym meta) has.meta;
          log = subst (IsMapped int_cmp entry_pair IsLog) (sym log) (mapped_with int_cmp_total exact_signed entry_pair IsLog row (db 4) free none (version, origin, number, body, refl) has.log);
          pending = subst (IsMapped place_cmp row_pair IsRow) (sym pending) has.pending;
        },
        rw (rows, pending, meta, log, map_is) refl,
      )

-- ---- inside a transaction

deletes_sound : (sql : List ℕ) (params : Row) (old new : State) (has : IsKept old.now) (at : ℕ) (q : Program) → command_of (understood store_schema sql) ≡ Delete at q → IsPlain (understood store_schema sql)
    → (count : ℕ) → Executes sql params old new (Ok count) → IsDatabase new.now
deletes_sound sql params old new has at q is plain count h = (runs_as sql params old new store_schema has.schema (Delete at q) is plain count h).sound

inserts_sound : (sql : List ℕ) (params : Row) (old new : State) (has : IsKept old.now) (at : ℕ) (from : Source) → command_of (understood store_schema sql) ≡ Insert at from → IsPlain (understood store_schema sql)
    → (count : ℕ) → Executes sql params old new (Ok count) → IsDatabase new.now
inserts_sound sql params old new has at from is plain count h = (runs_as sql params old new store_schema has.schema (Insert at from) is plain count h).sound

edits_by : (old new : State) (after : Contents) → Shows old new new.now old.committed true → IsDatabase new.now → IsKept new.now → contents_in new.now.trees ≡ after → Edits after old new
edits_by old new after shows sound kept is = record {
  inside = record { writes = shows.mode; sound = λ _. sound; kept = λ _. kept };
  kept = record { was_open = λ _. shows.was_open; committed = λ _. shows.committed_is };
  stays = λ _. shows.is_open;
  contents = λ _. is;
}

pub removes_inside : (space : Space) (old new : State) (table : ℤ) (key : List ℕ) (r : Result ℕ Error) → IsInside old → ExecutesInside 0 (remove_text space) (params_at table key) old new r
    → OnOk r (Edits (without_at space table key (contents_in old.now.trees)) old new)
removes_inside space old new table key (Err e) inside h = tt
removes_inside space old new table key (Ok count) inside h =
    let has = inside.kept h.1.was_open in
    let step = removes space old new table key has count h.0 in
    edits_by old new _ h.1 (deletes_sound (remove_text space) (params_at table key) old new has (index_of space) _ (remove_is space) (remove_plain space) count h.0) step.0 step.1

pub inserts_inside : (space : Space) (old new : State) (table : ℤ) (key body : List ℕ) (r : Result ℕ Error) → IsInside old → (IsTrue old.is_open → get (placed space (contents_in old.now.trees)) (table, key) ≡ None)
    → ExecutesInside 0 (insert_text space) (Int table ∷ Blob key ∷ Blob body ∷ []) old new r → OnOk r (Edits (with_at space table key body (contents_in old.now.trees)) old new)
inserts_inside space old new table key body (Err e) inside absent h = tt
inserts_inside space old new table key body (Ok count) inside absent h =
    let has = inside.kept h.1.was_open in
    let step = inserts space old new table key body has count (absent h.1.was_open) h.0 in
    edits_by old new _ h.1 (inserts_sound (insert_text space) (Int table ∷ Blob key ∷ Blob body ∷ []) old new has (index_of space) _ (insert_is space) (insert_plain space) count h.0) step.0 step.1

pub removes_meta_inside : (old new : State) (name : List ℕ) (r : Result ℕ Error) → IsInside old → ExecutesInside 0 remove_meta_text (Words name ∷ []) old new r
    → OnOk r (Edits (without_named name (contents_in old.now.trees)) old new)
removes_meta_inside old new name (Err e) inside h = tt
removes_meta_inside old new name (Ok count) inside h =
    let has = inside.kept h.1.was_open in
    let step = removes_meta old new name has count h.0 in edits_by old new _ h.1 (deletes_sound remove_meta_text (Words name ∷ []) old new has 1 _ remove_meta_is remove_meta_plain count h.0) step.0 step.1

pub inserts_meta_inside : (old new : State) (name value : List ℕ) (r : Result ℕ Error) → IsInside old → (IsTrue old.is_open → get (contents_in old.now.trees).meta name ≡ None)
    → ExecutesInside 0 insert_meta_text (Words name ∷ Blob value ∷ []) old new r → OnOk r (Edits (with_named name value (contents_in old.now.trees)) old new)
inserts_meta_inside old new name value (Err e) inside absent h = tt
inserts_meta_inside old new name value (Ok count) inside absent h =
    let has = inside.kept h.1.was_open in
    let step = inserts_meta old new name value has count (absent h.1.was_open) h.0 in edits_by old new _ h.1 (inserts_sound insert_meta_text (Words name ∷ Blob value ∷ []) old new has 1 _ insert_meta_is insert_meta_plain count h.0) step.0 step.1

pub inserts_log_inside : (old new : State) (version origin number : ℤ) (body : List ℕ) (r : Result ℕ Error) → IsInside old
    → ExecutesInside 0 insert_log_text (Int version ∷ Int origin ∷ Int number ∷ Blob body ∷ []) old new r
    → OnOk r (Edits (with_log version (Some (item origin number body)) (contents_in old.now.trees)) old new × (IsTrue new.is_open → get (contents_in old.now.trees).log version ≡ None))
inserts_log_inside old new version origin number body (Err e) inside h = tt
inserts_log_inside old new version origin number body (Ok count) inside h =
    let has = inside.kept h.1.was_open in
    let step = inserts_log old new version origin number body has count h.0 in
    (edits_by old new _ h.1 (inserts_sound insert_log_text (Int version ∷ Int origin ∷ Int number ∷ Blob body ∷ []) old new has 2 _ insert_log_is insert_log_plain count h.0) step.1 step.2, λ _. step.0)

pub first_of : {T E : Type 0} (P Q : Type 0) (r : Result T E) → OnOk r (P × Q) → OnOk r P
first_of P Q (Ok x) h = h.0
first_of P Q (Err e) h = tt

pub second_of : {T E : Type 0} (P Q : Type 0) (r : Result T E) → OnOk r (P × Q) → OnOk r Q
second_of P Q (Ok x) h = h.1
second_of P Q (Err e) h = tt
