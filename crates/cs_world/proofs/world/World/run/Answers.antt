use Rattle.std.proofs.Common.{◌+◌, ◌≤◌, ◌∷◌, List, length, vec_capacity, vec_len, subst, arith}
use Rattle.cs_store.specs.declared.log.entry.TheConstants.{MAX_ENTRIES}
use Rattle.cs_world.specs.declared.event.Event.{Event}
use Rattle.cs_world.proofs.Running.{Running, counted, counting_on, ran, running_on}
use Rattle.cs_world.proofs.world.World.run.Goals as goal

pub loop-event-preserved : goal.loop-event-preserved
loop-event-preserved g c =
    let so = subst (λ (r : List Event). Running g.S.RowStore MAX_ENTRIES c.args.self.now c.args.events.now c.loop-event.self r c.loop-event.outcomes.items) c.in-Some.ensures.cases.0 c.loop-event.invariant.running in
    let room : vec_len c.loop-event.outcomes + length (c.in-Some.event.now ∷ c.in-Some.more.now) ≤ vec_capacity c.loop-event.outcomes =
    subst (λ (r : List Event). vec_len c.loop-event.outcomes + length r ≤ vec_capacity c.loop-event.outcomes) c.in-Some.ensures.cases.0 c.loop-event.invariant.room in
    record {
      running = running_on g.S.RowStore MAX_ENTRIES c.args.self.now c.args.events.now c.loop-event.self c.step.new.self c.in-Some.event.now c.in-Some.more.now c.loop-event.outcomes.items _ c.step.result so c.step.ensures.ran c.push_reserved.ensures.items;
      counting = counting_on g.S.RowStore MAX_ENTRIES c.args.self.now c.loop-event.self c.step.new.self c.loop-event.outcomes.items _ c.step.result c.loop-event.invariant.counting c.step.ensures.counts c.push_reserved.ensures.items;
      room = omega (arith, room, c.push_reserved.ensures.len, c.push_reserved.ensures.capacity);
    }

pub returns-clause-ran : goal.returns-clause-ran
returns-clause-ran g c =
    ran g.S.RowStore MAX_ENTRIES c.args.self.now c.args.events.now c.loop-event.self c.loop-event.rest.now c.loop-event.outcomes.items c.in_default.ensures.cases c.loop-event.invariant.running

pub returns-clause-counts : goal.returns-clause-counts
returns-clause-counts g c = counted g.S.RowStore MAX_ENTRIES c.args.self.now c.loop-event.self c.loop-event.outcomes.items c.loop-event.invariant.counting

pub returns-clause-merges : goal.returns-clause-merges
returns-clause-merges g c = λ world stands.
    c.events_merge.ensures MAX_ENTRIES world c.args.events.now c.loop-event.outcomes.items (omega (arith, c.most_entries.ensures)) stands.1
