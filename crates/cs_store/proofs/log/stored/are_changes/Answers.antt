use Rattle.std.proofs.Common.{rules, ◌≡◌, List, length, sym, subst}
use Rattle.cs_value.specs.declared.catalog.TableDef.{TableDef}
use Rattle.cs_store.specs.log.Steps.{IsNextTable}
use Rattle.cs_store.proofs.LogLemmas.Seen.{AreTablesSoFar, all_tables, no_table_so_far, one_table_more}
use Rattle.cs_store.proofs.log.stored.are_changes.Goals as goal

pub loop-tables-init : goal.loop-tables-init
loop-tables-init c =
    let tables = c.args.catalog.now in
    let bytes = c.args.bytes.now in
    subst (λ (left : List TableDef). AreTablesSoFar tables left bytes bytes) (sym c.tables-tables.ensures.same) (no_table_so_far tables bytes)

pub loop-tables-preserved : goal.loop-tables-preserved
loop-tables-preserved c =
    let is : IsNextTable c.loop-tables.tables.now c.in-Some.more.now c.loop-tables.left.now c.in-Some.rest.now = search rules in
    one_table_more c.args.catalog.now c.loop-tables.tables.now c.in-Some.more.now c.args.bytes.now c.loop-tables.left.now c.in-Some.rest.now c.loop-tables.invariant is

pub returns : goal.returns
returns c =
    let none : length c.loop-tables.left.now ≡ 0 = search rules in
    λ _. all_tables c.fitting_is_normal.ensures c.args.catalog.now c.loop-tables.tables.now c.args.bytes.now c.loop-tables.left.now c.tables-tables.ensures.tables c.loop-tables.invariant none
