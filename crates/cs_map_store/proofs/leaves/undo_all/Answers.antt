use Rattle.std.proofs.Common.{◌≡◌, ◌-◌, ◌<◌, length, sym, subst, ap, ◌∙◌}
use Rattle.std.specs.Vec.{vec_len}
use Rattle.std.proofs.lemmas.List.Elements.{All-take}
use Rattle.cs_map_store.specs.Leaves.{ArePatches, restored}
use Rattle.cs_map_store.specs.declared.leaves.Patch.{Patch}
use Rattle.cs_map_store.proofs.Leafing.{length_set}
use Rattle.cs_map_store.proofs.Taking.{restored_push}
use Rattle.cs_map_store.proofs.leaves.undo_all.Goals as goal

pub loop-patch-preserved : goal.loop-patch-preserved
loop-patch-preserved c =
    let was = c.loop-patch.invariant in
    let leaves = c.loop-patch.leaves.items in
    let old = c.loop-patch.patches.items in
    let new = c.pop.new.self.items in
    let patch : Patch = c.in-Some.patch in
    let long : length c.undo.new.leaves.items ≡ length leaves = ap length c.undo.ensures ∙ length_set leaves patch.at patch.change.0 in
    record {
      places = subst (λ n. ArePatches n new) (sym long) (subst (ArePatches (length leaves)) (sym c.in-Some.ensures.rest) (All-take (λ (p : Patch). p.at < length leaves) (vec_len c.loop-patch.patches - 1) old was.places));
      left = ap (λ ls. restored ls new) c.undo.ensures ∙ sym (restored_push new leaves patch) ∙ ap (restored leaves) (sym c.in-Some.ensures.items) ∙ was.left;
    }
