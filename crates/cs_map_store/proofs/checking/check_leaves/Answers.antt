use Rattle.std.specs.List.{AllByRecursion}
use Rattle.cs_map_store.specs.Checked.{IsGood}
use Rattle.cs_map_store.specs.Leaves.{flat}
use Rattle.cs_map_store.proofs.Checks.{leaf_of_each, leaves_more, one_is_bad}
use Rattle.cs_map_store.proofs.checking.check_leaves.Goals as goal

pub returns-then-not-good : goal.returns-then-not-good
returns-then-not-good c =
    let P = IsGood c.args.shelf c.args.catalog.now in
    one_is_bad c.in_ok-good.good (AllByRecursion P (flat c.args.leaves.now)) (AllByRecursion P c.leaf-item.result) c.if-not-good.true c.in_ok-good.ensures
    (leaf_of_each P c.args.leaves.now c.loop-leaf.leaf-index c.leaf-item.result c.loop-leaf-test.true c.leaf-item.is)

pub loop-leaf-preserved : goal.loop-leaf-preserved
loop-leaf-preserved c =
    let P = IsGood c.args.shelf c.args.catalog.now in
    leaves_more P c.args.leaves.now c.loop-leaf.leaf-index c.leaf-item.result c.loop-leaf-test.true c.leaf-item.is c.loop-leaf.invariant (c.in_ok-good.ensures.0 c.if-not-good.false)
