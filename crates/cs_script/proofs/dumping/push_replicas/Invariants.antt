-- The replicas so far are written, of any world at which it stood.
use Rattle.std.proofs.Common.{◌≡◌, take}
use Rattle.std.specs.Prelude.{string_bytes}
use Rattle.cs_script.specs.Turns.{PutsReplicas, StandsAt}
use Rattle.cs_world.specs.World.{World}
use Rattle.cs_script.proofs.dumping.push_replicas.Given as goal

abbrev pub invariant-loop-replica : goal.invariant-loop-replica
invariant-loop-replica l = record {
  stands : (standing : World) → StandsAt l.initial.world standing → StandsAt l.world standing;
  put : (standing : World) → StandsAt l.initial.world standing → l.catalog ≡ standing.tables
      → PutsReplicas l.catalog (take l.replica standing.members) (string_bytes l.initial.text) (string_bytes l.text);
}
