use Rattle.std.proofs.Common.{ap, ◌∙◌}
use Rattle.std.specs.FinMap.{from_sorted}
use Rattle.cs_store.specs.Contents.{Bodies}
use Rattle.cs_map_store.specs.Leaves.{after_staged}
use Rattle.cs_map_store.proofs.Holding.{put_in}
use Rattle.cs_map_store.proofs.shelves.StagedLeaves.make.Goals as goal

pub invariant_of-result : goal.invariant_of-result
invariant_of-result c = put_in (after_staged c.self.inside.staged c.self.inside.leaves.items) c.put_staged.new.leaves.items c.self.invariant.rise c.put_staged.ensures.same c.put_staged.ensures.full

pub returns : goal.returns
returns c = ap from_sorted c.put_staged.ensures.same ∙ ap (λ (ends : Bodies × Bodies). ends.1) c.self.view_is
