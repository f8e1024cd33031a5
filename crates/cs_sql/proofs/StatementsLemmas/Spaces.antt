-- What the two tables with bodies at places have alike.
use Rattle.std.proofs.Common.{◌≡◌, ◌≢◌, ℕ, List, [], map, Option, refl, sym, subst, arith}
use Rattle.std.specs.List.{AllByRecursion, filter}
use Rattle.std.specs.List.Sorted.{IsPermutation}
use Rattle.std.specs.FinMap.{from_entries}
use Rattle.std.specs.Ordering.{int_cmp}
use Rattle.sqlite.specs.Does.{OnTable, Tally}
use Rattle.sqlite.specs.Effect.{Database}
use Rattle.sqlite.specs.Order.{Row}
use Rattle.sqlite.specs.Program.{overlay}
use Rattle.sqlite.specs.Query.{IsAnswer}
use Rattle.sqlite.specs.Rows.{Outcome, Part, Task}
use Rattle.sqlite.specs.Term.{Term}
use Rattle.sqlite.specs.Tree.{Trees}
use Rattle.sqlite.specs.declared.run.Mode.{Mode}
use Rattle.cs_order.specs.Order.{by_bytes}
use Rattle.cs_store.specs.Contents.{place_cmp}
use Rattle.cs_sql.specs.declared.statements.spaces.Space.{Space}
use Rattle.cs_sql.specs.declared.statements.spaces.Space.TheVariants.{Rows, Pending}
use Rattle.cs_sql.specs.schema.Schemas.{store_over, store_schema}
use Rattle.cs_sql.specs.statements.Tables.{IsKept, IsLog, IsMapped, IsMeta, IsRow, contents_in, entry_pair, row_pair, value_pair}
use Rattle.cs_sql.specs.statements.Steps.{placed, with_placed}
use Rattle.cs_sql.proofs.StatementsLemmas.Meanings.{index_of, query_on, table_of, tree_of}
use Rattle.cs_sql.proofs.StatementsLemmas.Answers.{answer_is, passes_on, shown}

pub mapped_at : (space : Space) (db : Database) → IsKept db → IsMapped place_cmp row_pair IsRow (db.trees (tree_of space))
mapped_at Rows db has = has.rows
mapped_at Pending db has = has.pending

pub placed_is : (space : Space) (trees : Trees) → placed space (contents_in trees) ≡ from_entries {R = place_cmp} (map row_pair (trees (tree_of space)))
placed_is Rows trees = refl
placed_is Pending trees = refl

-- a query on the table reads its rows
pub uncovered : (space : Space) (db : Trees) → overlay db [] (tree_of space) ≡ db (tree_of space)
uncovered Rows db = refl
uncovered Pending db = refl

pub answer_at : (space : Space) (terms project : List Term) (db : Trees) (params : Row) (rows : List Row) → IsAnswer (query_on (tree_of space) terms project []) (overlay db []) params rows
    → IsPermutation (map (shown project params) (filter (passes_on terms params) (db (tree_of space)))) rows
answer_at space terms project db params rows a =
    subst (λ (es : List Row). IsPermutation (map (shown project params) (filter (passes_on terms params) es)) rows) (uncovered space db) (answer_is (tree_of space) terms project [] db params rows a)

-- what a statement on the table does is done to it
pub stands : (space : Space) (limit : Option ℕ) (mode : Mode) (given : Row) (db : Trees) (Work : Task → Part (Tally × Database)) (out : Outcome (Tally × Database)) → OnTable limit mode given (store_over db) (index_of space) Work out
    → Work (record { limit = limit; keys = mode.keys; schema = store_schema; table = table_of space; params = given }) out
stands Rows limit mode given db Work out h = h
stands Pending limit mode given db Work out h = h

-- where the table has these rows and the others are as they were, the database is still a store's
pub kept_at : (space : Space) (old new : Database) (es : List Row) → IsKept old → new.schema ≡ store_schema → new.trees (tree_of space) ≡ es → IsMapped place_cmp row_pair IsRow es
    → AllByRecursion (λ t. t.tree ≢ tree_of space → new.trees t.tree ≡ old.trees t.tree) store_schema.tables
    → IsKept new × (contents_in new.trees ≡ with_placed space (from_entries {R = place_cmp} (map row_pair es)) (contents_in old.trees))
kept_at Rows old new es has schema rows mapped others =
    let meta : new.trees 2 ≡ old.trees 2 = others.1.0 (λ e. omega (arith, e)) in
    let log : new.trees 4 ≡ old.trees 4 = others.1.1.0 (λ e. omega (arith, e)) in
    let pending : new.trees 5 ≡ old.trees 5 = others.1.1.1.0 (λ e. omega (arith, e)) in (
      record {
        schema = schema;
        rows = subst (IsMapped place_cmp row_pair IsRow) (sym rows) mapped;
        meta = subst (IsMapped by_bytes value_pair IsMeta) (sym meta) has.meta;
        log = subst (IsMapped int_cmp entry_pair IsLog) (sym log) has.log;
        pending = subst (IsMapped place_cmp row_pair IsRow) (sym pending) has.pending;
      },
      rw (rows, pending, meta, log) refl,
    )
kept_at Pending old new es has schema pending mapped others =
    let rows : new.trees 0 ≡ old.trees 0 = others.0 (λ e. omega (arith, e)) in
    let meta : new.trees 2 ≡ old.trees 2 = others.1.0 (λ e. omega (arith, e)) in
    let log : new.trees 4 ≡ old.trees 4 = others.1.1.0 (λ e. omega (arith, e)) in (
      record {
        schema = schema;
        rows = subst (IsMapped place_cmp row_pair IsRow) (sym rows) has.rows;
        meta = subst (IsMapped by_bytes value_pair IsMeta) (sym meta) has.meta;
        log = subst (IsMapped int_cmp entry_pair IsLog) (sym log) has.log;
        pending = subst (IsMapped place_cmp row_pair IsRow) (sym pending) mapped;
      },
      rw (rows, pending, meta, log) refl,
    )
