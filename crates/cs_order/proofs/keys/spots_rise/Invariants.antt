use Rattle.std.proofs.Common.{◌≡◌, length}
use Rattle.std.specs.List.{All}
use Rattle.cs_order.specs.Spots.{IsSpotIn, keys_in}
use Rattle.cs_order.specs.Steps.Rising.{ascend, ascend_from}
use Rattle.cs_order.proofs.keys.spots_rise.Given as goal

abbrev pub invariant-loop-next : goal.invariant-loop-next
invariant-loop-next l = record {
  within : All (IsSpotIn (length l.bytes)) l.rest;
  left : ascend_from l.last (keys_in l.bytes l.rest) ≡ ascend (keys_in l.bytes l.fn.spots);
}

abbrev pub decreases-loop-next : goal.decreases-loop-next
decreases-loop-next l = length l.rest
