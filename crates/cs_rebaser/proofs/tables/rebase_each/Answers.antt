use Rattle.std.proofs.Common.{arith}
use Rattle.cs_rebaser.proofs.LentWalks.{entries_all}
use Rattle.cs_rebaser.proofs.tables.rebase_each.Goals as goal

pub returns-clause-left : goal.returns-clause-left
returns-clause-left c =
    let over = c.args.over.now in
    let table = over.table.now in
    entries_all over.rebaser.now table.name table.marks table.entries c.loop-at.at _ (omega (arith, c.loop-at-test.false, c.len-at-end.ensures)) c.loop-at.invariant.left
