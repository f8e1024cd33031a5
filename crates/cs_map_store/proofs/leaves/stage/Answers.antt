use Rattle.std.proofs.Common.{◌<◌, List, length, sym, subst}
use Rattle.std.specs.List.{All}
use Rattle.cs_leaf.specs.Entries.{Entry}
use Rattle.cs_map_store.proofs.Leafing.{full_patched}
use Rattle.cs_map_store.proofs.leaves.stage.Goals as goal

pub returns-in-Ok-true-clause-can : goal.returns-in-Ok-true-clause-can
returns-in-Ok-true-clause-can c = (
  c.stage_patches.ensures.places,
  λ some. subst (All (λ (leaf : List Entry). 0 < length leaf)) (sym c.stage_patches.ensures.same) (full_patched c.stage_patches.new.patches.items c.args.leaves.now.items c.requires.leaves.full some),
)
