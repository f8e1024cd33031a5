use Rattle.std.proofs.Common.{◌≡◌, ◌++◌, take}
use Rattle.cs_group.proofs.joining.copy_keys.Given as goal

abbrev pub invariant-loop-at : goal.invariant-loop-at
invariant-loop-at l = l.copied ≡ l.fn.copied ++ take l.at l.keys
