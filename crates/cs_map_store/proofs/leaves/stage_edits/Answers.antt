use Rattle.std.proofs.Common.{[], ◌∷◌, ap, fold, arith}
use Rattle.cs_store.specs.Written.{edit_body}
use Rattle.cs_map_store.specs.Leaves.{after_staged}
use Rattle.cs_map_store.proofs.Holding.{bodies_after, still_rises}
use Rattle.cs_map_store.proofs.Leafing.{only_one}
use Rattle.cs_map_store.proofs.leaves.stage_edits.Goals as goal

pub returns-in_ok-staged-in-1-clause-rise : goal.returns-in_ok-staged-in-1-clause-rise
returns-in_ok-staged-in-1-clause-rise c =
    still_rises c.args.leaves.now.items (after_staged c.in_ok-staged-in-1.staged c.stage_single.new.leaves.items) (c.get.result ∷ []) c.edited_entries.ensures.order c.requires.rise c.in_ok-staged-in-1.ensures.made

pub returns-in_ok-staged-in-1-clause-made : goal.returns-in_ok-staged-in-1-clause-made
returns-in_ok-staged-in-1-clause-made c =
    let edits = c.args.edits.now in
    let one = only_one edits c.get.result (omega arith) c.get.ensures in
    bodies_after c.args.leaves.now.items (after_staged c.in_ok-staged-in-1.staged c.stage_single.new.leaves.items) (c.get.result ∷ []) edits
    c.edited_entries.ensures.maps c.requires.rise (λ bodies. ap (fold edit_body bodies) one) c.in_ok-staged-in-1.ensures.made
