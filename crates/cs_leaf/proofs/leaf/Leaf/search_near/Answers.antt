use Rattle.std.proofs.Common.{◌-◌, arith, sym, ◌∙◌}
use Rattle.cs_leaf.proofs.Editing.{stands_at}
use Rattle.cs_leaf.proofs.leaf.Leaf.search_near.Goals as goal

pub returns-in-Equal-clause-found : goal.returns-in-Equal-clause-found
returns-in-Equal-clause-found c =
    stands_at c.args.self.now (c.args.near - 1) c.args.place.now (omega arith) c.requires (sym c.compare.ensures ∙ c.in-Equal.is)
