use Rattle.cs_group.specs.Steps.Reading.{IsReadJoinOf}
use Rattle.cs_group.proofs.PerTable.{spelled_none, spelled_one_more, spelled_all}
use Rattle.cs_group.proofs.tables.spell_read_tables.Goals as goal

pub loop-table-init : goal.loop-table-init
loop-table-init c = spelled_none (IsReadJoinOf c.args.changesets.now) c.args.tables.now _ c.new-spelled.ensures

pub loop-table-preserved : goal.loop-table-preserved
loop-table-preserved c =
    let so_far = rw c.in-Some.ensures.cases.0 at c.loop-table.invariant in
    let one = rw c.in-Some-2.is at (c.in_ok-longer.ensures c.args.changesets.now c.in_ok-groups.ensures) in
    spelled_one_more (IsReadJoinOf c.args.changesets.now) c.in-Some.table.now c.in-Some.more.now c.args.tables.now c.loop-table.spelled c.in-Some-2.longer one so_far

pub returns : goal.returns
returns c = spelled_all (IsReadJoinOf c.args.changesets.now) c.loop-table.rest.now c.args.tables.now c.loop-table.spelled c.in_default.ensures.cases c.loop-table.invariant
