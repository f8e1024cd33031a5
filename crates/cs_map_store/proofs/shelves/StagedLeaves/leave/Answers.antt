use Rattle.std.proofs.Common.{ap, sym, subst, ◌∙◌}
use Rattle.cs_store.specs.Contents.{Bodies}
use Rattle.cs_map_store.specs.Leaves.{AreLeaves, bodies_in}
use Rattle.cs_map_store.proofs.shelves.StagedLeaves.leave.Goals as goal

pub invariant_of-result : goal.invariant_of-result
invariant_of-result c = subst AreLeaves (sym c.take_back.ensures) c.self.invariant.before

pub returns : goal.returns
returns c = ap bodies_in c.take_back.ensures ∙ ap (λ (ends : Bodies × Bodies). ends.0) c.self.view_is
