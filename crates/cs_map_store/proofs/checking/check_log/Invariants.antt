use Rattle.std.proofs.Common.{take}
use Rattle.cs_store.specs.Whole.{Decodes}
use Rattle.cs_map_store.proofs.Checks.{bodies_of}
use Rattle.cs_map_store.proofs.checking.check_log.Given as goal

abbrev pub invariant-loop-at : goal.invariant-loop-at
invariant-loop-at l = Decodes l.catalog (bodies_of (take l.at l.log.items)) l.present
