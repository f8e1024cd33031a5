-- The tables so far are written, of any world at which it stood.
use Rattle.std.proofs.Common.{◌≡◌, take}
use Rattle.std.specs.Prelude.{string_bytes}
use Rattle.cs_normal.specs.State.{State}
use Rattle.cs_script.specs.Turns.{IsStateOf, StandsAt}
use Rattle.cs_node_lines.specs.told.Dump.{PutsRows}
use Rattle.cs_world.specs.World.{World}
use Rattle.cs_script.proofs.dumping.push_tables.Given as goal

abbrev pub invariant-loop-number : goal.invariant-loop-number
invariant-loop-number l = record {
  stands : (standing : World) → StandsAt l.initial.world standing → StandsAt l.world standing;
  put : (standing : World) (state : State) → StandsAt l.initial.world standing → IsStateOf standing l.whose state → l.catalog ≡ standing.tables
      → PutsRows (take l.number l.catalog) state (string_bytes l.initial.text) (string_bytes l.text);
}
