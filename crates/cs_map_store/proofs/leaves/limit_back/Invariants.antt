use Rattle.std.proofs.Common.{◌-◌, ◌<◌}
use Rattle.cs_map_store.proofs.leaves.limit_back.Given as goal

abbrev pub invariant-loop-step : goal.invariant-loop-step
invariant-loop-step l = 0 < l.step

abbrev pub decreases-loop-step : goal.decreases-loop-step
decreases-loop-step l = 1024 - l.step
