use Rattle.std.specs.Prelude.{slice_set}
use Rattle.cs_change.specs.Listed.{one_there}
use Rattle.cs_change.specs.Then.{turned}
use Rattle.cs_change.proofs.Packed.{held_now, held_same}
use Rattle.cs_change.proofs.changes_buf.ChangesBuf.turn_at.Goals as goal

pub turn_over-requires : goal.turn_over-requires
turn_over-requires c =
    let before = held_now _ _ c.self.inside.held c.args.self.now c.self.view_is in
    (c.args.self.now, rw c.as_slice.ensures.value before, c.requires)

pub invariant_of-self-inside : goal.invariant_of-self-inside
invariant_of-self-inside c =
    let before = held_now _ _ c.self.inside.held c.args.self.now c.self.view_is in
    let there = one_there c.args.self.now c.args.index c.requires in
    ((slice_set c.args.self.now c.args.index (turned there.0), rw c.as_slice.ensures.value at (c.turn_over.ensures c.args.self.now there.0 (rw c.as_slice.ensures.value before) there.1)), tt)

pub returns : goal.returns
returns c = λ change there.
    let before = held_now _ _ c.self.inside.held c.args.self.now c.self.view_is in
    let after = rw c.as_slice.ensures.value at (c.turn_over.ensures c.args.self.now change (rw c.as_slice.ensures.value before) there) in
    held_same c.turn_over.new.bytes.items c.self.inside.places.items _ (slice_set c.args.self.now c.args.index (turned change)) (assumption) after
