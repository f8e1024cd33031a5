use Rattle.std.proofs.Common.{ap, sym, subst, ◌∙◌}
use Rattle.cs_map_store.specs.Leaves.{AreLeaves, bodies_in}
use Rattle.cs_map_store.proofs.Holding.{no_bodies, no_leaves}
use Rattle.cs_map_store.proofs.shelves.Leaves.new.Goals as goal

pub invariant_of-result : goal.invariant_of-result
invariant_of-result c = subst AreLeaves (sym c.new.ensures.items) no_leaves

pub returns : goal.returns
returns c = ap bodies_in c.new.ensures.items ∙ no_bodies
