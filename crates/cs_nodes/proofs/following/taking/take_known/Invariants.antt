use Rattle.cs_nodes.proofs.FollowingLemmas.Along.{IsAlong}
use Rattle.cs_nodes.proofs.following.taking.take_known.Given as goal

-- those before were taken
abbrev pub invariant-loop-at : goal.invariant-loop-at
invariant-loop-at g l = record {
  ready : g.P.Picker.is_ready l.picker;
  along : IsAlong g.P.Picker.picks g.S.RowStore
      l.pass.known l.fn.replica l.fn.picker l.at l.replica l.picker;
}
