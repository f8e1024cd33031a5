use Rattle.std.proofs.Common.{List, get_or, sym, subst, arith}
use Rattle.std.specs.List.{slice_range}
use Rattle.cs_leaf.specs.Entries.{IsRun}
use Rattle.cs_leaf.specs.declared.leaf.Spot.{Spot}
use Rattle.cs_leaf.proofs.Packing.{no_spot, run_more, slice_more}
use Rattle.cs_leaf.proofs.leaf.run_from.Goals as goal

pub loop-next-preserved : goal.loop-next-preserved
loop-next-preserved c =
    let spots = c.args.spots.now in
    let from = c.args.from in
    let next = c.loop-next.next in
    let was = c.loop-next.invariant in
    let s : Spot = get_or spots next no_spot in
    let start = (get_or spots from no_spot).key in (
      omega arith,
      omega arith,
      subst (λ (run : List Spot). IsRun start run s.end) (sym (slice_more spots no_spot from next (omega arith) (omega arith)))
          (run_more start (slice_range spots from next) c.loop-next.end s was.2 (omega (arith, c.if-spots-next.true))),
    )
