use Rattle.std.proofs.Common.{◌≡◌}
use Rattle.cs_nodes.specs.following.Standing.{Begins}
use Rattle.cs_nodes.proofs.following.seeing.see_all.Given as goal

abbrev pub invariant-cells : goal.invariant-cells
invariant-cells l = record {
  spine : l.pass.spine ≡ l.spine;
  begins : Begins l.fn.pass.known l.pass.known;
}
