use Rattle.std.proofs.Common.{take}
use Rattle.cs_normalising.specs.NormalFormOf.{HaveTables}
use Rattle.cs_normalising.proofs.groups.fitting_headers.Given as goal

abbrev pub invariant-loop-index : goal.invariant-loop-index
invariant-loop-index l = HaveTables l.catalog (take l.index l.groups)
