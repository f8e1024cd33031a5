use Rattle.std.proofs.Common.{◌≡◌, map, take}
use Rattle.cs_rebaser.specs.Rebased.{entry_key}
use Rattle.cs_rebaser.proofs.keys.copy_keys.Given as goal

abbrev pub invariant-loop-entry : goal.invariant-loop-entry
invariant-loop-entry l = l.keys ≡ map (entry_key l.fn.marks) (take l.entry-index l.entries)
