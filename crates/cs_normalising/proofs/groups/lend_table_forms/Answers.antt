use Rattle.std.proofs.Common.{List, ap, map}
use Rattle.cs_normal.specs.keyed.Prepared.{kept}
use Rattle.cs_normalising.specs.Lent.{LentForm, table_of}
use Rattle.cs_normalising.specs.Steps.Lent.{ordered_entries}
use Rattle.std.specs.List.{Contains}
use Rattle.std.proofs.lemmas.List.Elements.{recursion_from_All, All-contains_itself}
use Rattle.cs_normalising.specs.Steps.Named.{names_of}
use Rattle.cs_normalising.proofs.Placed.{as_lent}
use Rattle.cs_normalising.proofs.PerTable.{built_none, built_more, built_all}
use Rattle.cs_normalising.proofs.groups.lend_table_forms.Goals as goal

pub loop-table-init : goal.loop-table-init
loop-table-init c =
    let tables = c.args.tables.now in
    record {
      passed = recursion_from_All (Contains tables) tables (All-contains_itself tables);
      built = built_none c.args.groups.now tables (map table_of c.new-normal.result.items) (ap (λ (ts : List LentForm). map table_of ts) c.new-normal.ensures.items);
    }

pub loop-table-preserved : goal.loop-table-preserved
loop-table-preserved c =
    let so_far = rw c.in-Some.ensures.cases.0 at c.loop-table.invariant in
    let table = c.in-Some.table.now in
    record {
      passed = so_far.passed.1;
      built = built_more c.args.groups.now table (kept (ordered_entries table.key_marks c.in_ok-lent.lent)) c.in-Some.more.now c.args.tables.now (map table_of c.loop-table.normal.items) (map table_of c.push_if_left.new.tables.items) c.in_ok-push_if_left.ensures c.in_ok-lent.ensures.normal so_far.built;
    }

pub returns-clause-normal : goal.returns-clause-normal
returns-clause-normal c = built_all c.args.groups.now c.loop-table.rest.now c.args.tables.now (map table_of c.loop-table.normal.items) c.in_default.ensures.cases c.loop-table.invariant.built

pub order_table-requires : goal.order_table-requires
order_table-requires c =
    as_lent (names_of c.args.groups.now) c.as_ref-names.result (rw (← c.as_ref-names.ensures.value) at c.in_ok-found.ensures)
