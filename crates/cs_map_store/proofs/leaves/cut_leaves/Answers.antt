use Rattle.std.proofs.Common.{◌≡◌, ◌∷◌, List, length, ap, arith}
use Rattle.std.specs.Vec.Iter.{into_iter_items}
use Rattle.cs_leaf.specs.Entries.{Entry}
use Rattle.cs_map_store.specs.Leaves.{flat}
use Rattle.cs_map_store.proofs.Leafing.{moved, moved_full}
use Rattle.cs_map_store.proofs.leaves.cut_leaves.Goals as goal

pub loop-leaf-preserved : goal.loop-leaf-preserved
loop-leaf-preserved c =
    let was = c.loop-leaf.invariant in
    let cut = c.loop-leaf.cut.items in
    let new = c.push_cut.new.cut.items in
    let before = into_iter_items c.loop-leaf.leaf-iterator in
    let left = into_iter_items c.next.new.self in
    let leaf : List Entry = c.in-Some.leaf in
    let first : before ≡ leaf ∷ left = c.in-Some.ensures.steps.0 in
    record {
      rest = omega (arith, was.rest, ap length first);
      room = c.push_cut.ensures.room;
      same = moved cut new before left leaf (flat c.args.leaves.now.items) first c.push_cut.ensures.same was.same;
      full = λ each. moved_full cut new before left leaf first c.push_cut.ensures.full (was.full each);
    }
