use Rattle.std.proofs.Common.{ap, arith, length}
use Rattle.cs_leaf.proofs.Packing.{size_within}
use Rattle.cs_leaf.proofs.leaf.Leaf.size_if.Goals as goal

pub returns-then-is_there-clause-bound : goal.returns-then-is_there-clause-bound
returns-then-is_there-clause-bound c =
    let within = size_within c.args.self.now c.args.at (c.requires c.if-is_there.true) in
    let key = ap length c.key.ensures in
    let row = ap length c.row.ensures in
    omega (arith, within, key, row)
