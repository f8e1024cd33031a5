use Rattle.std.proofs.Common.{◌∷◌, [], length, arith, subst}
use Rattle.cs_leaf.specs.Entries.{IsFrontOf, entries_at}
use Rattle.cs_leaf.proofs.Packing.{still_packed, tight_grown}
use Rattle.cs_leaf.proofs.leaf.Leaf.push.Goals as goal

pub invariant_of-self : goal.invariant_of-self
invariant_of-self c =
    let was = c.self.inside in
    still_packed was.front was.bytes.items c.put.new.bytes.items was.spots.items c.put.new.spots.items was.used c.self.invariant c.in_err-put.ensures.same_bytes c.in_err-put.ensures.same_spots

pub invariant_of-self-2 : goal.invariant_of-self-2
invariant_of-self-2 c =
    let was = c.self.inside in
    let its = c.put.ensures in (
      its.within,
      subst (IsFrontOf c.note_front.new.front) c.as_slice.ensures.value c.note_front.ensures,
      tight_grown (entries_at was.bytes.items was.spots.items) ((c.args.place.now, c.args.row.now) ∷ []) (entries_at c.put.new.bytes.items c.put.new.spots.items)
          was.used (length was.bytes.items) (length c.put.new.bytes.items) _ c.self.invariant.2 c.in_ok-put.ensures.ok (omega (arith, c.in_ok-put.ensures.len)) (omega arith),
    )
