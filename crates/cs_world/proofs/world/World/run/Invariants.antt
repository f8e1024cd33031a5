use Rattle.std.proofs.Common.{◌+◌, ◌≤◌, length, vec_capacity, vec_len}
use Rattle.cs_store.specs.declared.log.entry.TheConstants.{MAX_ENTRIES}
use Rattle.cs_world.proofs.Running.{Counting, Running}
use Rattle.cs_world.proofs.world.World.run.Given as goal

abbrev pub invariant-loop-event : goal.invariant-loop-event
invariant-loop-event g l = record {
  running : Running g.S.RowStore MAX_ENTRIES l.fn.self l.fn.events l.self l.rest l.outcomes.items;
  counting : Counting g.S.RowStore MAX_ENTRIES l.fn.self l.self l.outcomes.items;
  room : vec_len l.outcomes + length l.rest ≤ vec_capacity l.outcomes;
}

abbrev pub decreases-loop-event : goal.decreases-loop-event
decreases-loop-event g l = length l.rest
