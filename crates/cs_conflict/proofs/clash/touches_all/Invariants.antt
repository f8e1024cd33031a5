use Rattle.std.proofs.Common.{◌≡◌, length}
use Rattle.cs_conflict.specs.Lawful.{includes}
use Rattle.cs_conflict.proofs.clash.touches_all.Given as goal

abbrev pub invariant-loop-m : goal.invariant-loop-m
invariant-loop-m l = includes l.mine l.theirs ≡ includes l.fn.mine l.fn.theirs

abbrev pub decreases-loop-m : goal.decreases-loop-m
decreases-loop-m l = length l.mine
