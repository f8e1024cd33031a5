use Rattle.std.proofs.Common.{◌≡◌, ◌<◌, ◌^◌, ◌++◌, length, drop}
use Rattle.std.specs.List.{All, slice_range}
use Rattle.cs_order.specs.Steps.Packed.{places_in}
use Rattle.cs_order.specs.Steps.Runs.{grow, parts, ranges_of, runs, IsRangeWithin}
use Rattle.cs_order.proofs.Ends.{last_end}
use Rattle.cs_order.proofs.grouping.run_ends.Given as goal

abbrev pub invariant-loop-at : goal.invariant-loop-at
invariant-loop-at l =
    (l.start < l.at)
    × (l.start ≡ last_end 0 l.ends.items)
    × All (IsRangeWithin (length l.words)) (ranges_of l.ends.items)
    × (parts (places_in (2 ^ l.ranks.bits) l.words) (ranges_of l.ends.items) ++ grow l.keys (slice_range (places_in (2 ^ l.ranks.bits) l.words) l.start l.at) (drop l.at (places_in (2 ^ l.ranks.bits) l.words))
    ≡ runs l.keys (places_in (2 ^ l.ranks.bits) l.words))
