use Rattle.std.proofs.Common.{◌≡◌}
use Rattle.std.specs.List.{slice_range}
use Rattle.cs_store.specs.Written.{items_of}
use Rattle.cs_map_store.proofs.log.PackedLog.copies.Given as goal

abbrev pub invariant-loop-at : goal.invariant-loop-at
invariant-loop-at l = items_of l.entries.items ≡ slice_range l.self.items l.start l.at
