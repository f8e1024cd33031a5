use Rattle.std.proofs.Common.{◌-◌, ◌<◌, ◌≤◌, length, take}
use Rattle.cs_normalising.specs.NormalFormOf.{HaveKeys}
use Rattle.cs_normalising.specs.Steps.TableByTable.{HasTableFault}
use Rattle.cs_normalising.proofs.groups.first_fault.Given as goal

-- the first `low` groups fit, the first `high` do not
abbrev pub invariant-loop-low : goal.invariant-loop-low
invariant-loop-low l = record {
  below : l.low < l.high;
  within : l.high ≤ length l.groups;
  fit : HaveKeys l.catalog (take l.low l.groups);
  wrong : HasTableFault l.fault l.catalog (take l.high l.groups);
}

abbrev pub decreases-loop-low : goal.decreases-loop-low
decreases-loop-low l = l.high - l.low
