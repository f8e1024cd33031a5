use Rattle.std.proofs.Common.{[], ap, ◌∙◌}
use Rattle.std.specs.Prelude.{slice_set}
use Rattle.std.proofs.lemmas.List.{get_or_default}
use Rattle.cs_map_store.proofs.Taking.{set_own, set_set}
use Rattle.cs_map_store.proofs.leaves.stage_leaf.Goals as goal

pub returns-in-Err-clause-err : goal.returns-in-Err-clause-err
returns-in-Err-clause-err c =
    let leaves = c.args.leaves.now.items in
    let at = c.args.at in
    set_set leaves at c.replace-leaf.new.dest c.in-Err.leaf
    ∙ ap (slice_set leaves at) (c.in-Err.ensures.err ∙ c.replace-leaf.ensures.value ∙ c.index_mut.ensures.value ∙ get_or_default leaves at c.index_mut.result.now [] c.requires.in_bounds)
    ∙ set_own leaves at c.requires.in_bounds
