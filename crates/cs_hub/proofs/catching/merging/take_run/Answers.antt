use Rattle.std.proofs.Common.{arith}
use Rattle.cs_hub.proofs.CatchingLemmas.Taken.{few_run}
use Rattle.cs_hub.proofs.catching.merging.take_run.Goals as goal

pub returns-then-bytes-le-MAX_CHANGESET : goal.returns-then-bytes-le-MAX_CHANGESET
returns-then-bytes-le-MAX_CHANGESET c =
    few_run (record { one = c.one_join.ensures; some = c.some_join.ensures.some; short = c.some_join.ensures.short })
    c.args.catalog.now c.args.list.now c.in_ok-all.all c.tables-tables.ensures.tables c.requires.fit (c.requires.counted (omega (arith, c.if-bytes-le-MAX_CHANGESET.true)))
    (record { of_tables = (c.in_ok-all.ensures.normal, c.in_ok-all.ensures.fits); joined = c.in_ok-all.ensures.joined })
