use Rattle.std.proofs.Common.{◌≡◌, ◌<◌, ◌∷◌, List, length, subst, sym, ap, arith}
use Rattle.std.specs.List.{All}
use Rattle.std.specs.Prelude.{slice_set}
use Rattle.std.specs.Vec.Iter.{into_iter_items}
use Rattle.cs_leaf.specs.Entries.{Entry}
use Rattle.cs_map_store.specs.Leaves.{ArePatches, patched}
use Rattle.cs_map_store.specs.declared.leaves.Patch.{Patch}
use Rattle.cs_map_store.proofs.Leafing.{all_first, patches_left}
use Rattle.cs_map_store.proofs.leaves.write_patches.Goals as goal

pub loop-patch-preserved : goal.loop-patch-preserved
loop-patch-preserved c =
    let was = c.loop-patch.invariant in
    let leaves = c.loop-patch.leaves.items in
    let at = c.in-Some.patch.at in
    let before = into_iter_items c.loop-patch.patch-iterator in
    let rest = into_iter_items c.next.new.self in
    let patch : Patch = c.in-Some.patch in
    let first : before ≡ patch ∷ rest = c.in-Some.ensures.steps.0 in
    let end = patched c.args.leaves.now.items c.args.patches.items in
    let left = patches_left leaves before rest patch end first was.places was.made in
    let is = c.make-leaf.ensures in
    record {
      places = subst (λ (leaf : List Entry). ArePatches (length (slice_set leaves at leaf)) rest) (sym is) left.0;
      made = subst (λ (leaf : List Entry). patched (slice_set leaves at leaf) rest ≡ end) (sym is) left.1;
      full = λ none each.
          let noted = c.note.ensures none in
          was.full noted.0 (subst (All (λ (p : Patch). 0 < length p.change.1)) (sym first)
          (all_first (λ (p : Patch). 0 < length p.change.1) patch rest (omega (arith, noted.1, c.len.ensures, ap length is)) each));
    }

pub index_mut-requires : goal.index_mut-requires
index_mut-requires c =
    let leaves = c.loop-patch.leaves in
    let patch : Patch = c.in-Some.patch in
    let here = subst (ArePatches (length leaves.items)) c.in-Some.ensures.steps.0 c.loop-patch.invariant.places 0 patch (omega arith) in
    omega (arith, here, leaves.ok.0)
