use Rattle.std.proofs.Common.{length, ap, arith}
use Rattle.std.specs.Vec.Iter.{into_iter_items}
use Rattle.cs_map_store.proofs.Changing.{after_step, has_rest}
use Rattle.cs_map_store.proofs.Filled.{noted_step, set_step}
use Rattle.cs_map_store.proofs.slots.write_steps.Goals as goal

pub loop-step-preserved-then-clears : goal.loop-step-preserved-then-clears
loop-step-preserved-then-clears c =
    let first = c.in-Some.ensures.steps.0 in
    record {
      after = after_step c.loop-step.slots c.write_slot.new.slots (into_iter_items c.loop-step.step-iterator) (into_iter_items c.next.new.self) c.in-Some.step _ first c.write_slot.ensures.shown c.loop-step.invariant.after;
      has = has_rest c.loop-step.slots c.write_slot.new.slots (into_iter_items c.loop-step.step-iterator) (into_iter_items c.next.new.self) c.in-Some.step first c.write_slot.ensures.kept c.loop-step.invariant.has;
      room = let one = ap length first in omega (arith, one, c.loop-step.invariant.room, c.note.ensures.len, c.note.ensures.capacity);
      empty = λ was. noted_step (into_iter_items c.loop-step.step-iterator) (into_iter_items c.next.new.self) c.loop-step.cleared.items c.note.new.keys.items c.in-Some.step c.loop-step.slots c.write_slot.new.slots
          first c.if-clears.ensures c.write_slot.ensures.empty c.note.ensures.items (c.loop-step.invariant.empty was);
    }

pub loop-step-preserved : goal.loop-step-preserved
loop-step-preserved c =
    let first = c.in-Some.ensures.steps.0 in
    record {
      after = after_step c.loop-step.slots c.write_slot.new.slots (into_iter_items c.loop-step.step-iterator) (into_iter_items c.next.new.self) c.in-Some.step _ first c.write_slot.ensures.shown c.loop-step.invariant.after;
      has = has_rest c.loop-step.slots c.write_slot.new.slots (into_iter_items c.loop-step.step-iterator) (into_iter_items c.next.new.self) c.in-Some.step first c.write_slot.ensures.kept c.loop-step.invariant.has;
      room = let one = ap length first in omega (arith, one, c.loop-step.invariant.room);
      empty = λ was. set_step (into_iter_items c.loop-step.step-iterator) (into_iter_items c.next.new.self) c.loop-step.cleared.items c.in-Some.step c.loop-step.slots c.write_slot.new.slots
          first c.if-clears.ensures c.write_slot.ensures.empty (c.loop-step.invariant.empty was);
    }
