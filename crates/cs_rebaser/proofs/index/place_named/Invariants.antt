use Rattle.std.proofs.Common.{◌≡◌, drop}
use Rattle.cs_rebaser.specs.Steps.{first_named}
use Rattle.cs_rebaser.proofs.index.place_named.Given as goal

abbrev pub invariant-loop-at : goal.invariant-loop-at
invariant-loop-at l = first_named l.fn.name (drop l.at l.fn.groups) ≡ first_named l.fn.name l.fn.groups
