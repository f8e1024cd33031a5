use Rattle.cs_group.specs.Inverse.{inverse_table}
use Rattle.cs_group.proofs.InPlace.{as_it_stood, normal_keep, one_set}
use Rattle.cs_group.proofs.inverting.invert_tables.Goals as goal

pub invert_table-requires : goal.invert_table-requires
invert_table-requires c =
    normal_keep c.args.tables.now c.loop-at.at _ c.requires (as_it_stood inverse_table c.args.tables.now c.loop-at.tables c.loop-at.at c.index-tables-at.result c.loop-at-test.true c.loop-at.invariant)

pub loop-at-preserved : goal.loop-at-preserved
loop-at-preserved c =
    one_set inverse_table c.args.tables.now c.loop-at.tables c.loop-at.at c.index-tables-at.result c.invert_table.new.table c.loop-at-test.true c.loop-at.invariant c.index-tables-at.is c.in_ok-invert_table.ensures
