use Rattle.std.proofs.Common.{◌≡◌, ◌+◌, drop}
use Rattle.cs_ffi.specs.Answers.{change_count}
use Rattle.cs_ffi.proofs.reading.count_changes.Given as goal

abbrev pub invariant-loop-group : goal.invariant-loop-group
invariant-loop-group l = l.count + change_count (drop l.group-index l.groups) ≡ change_count l.groups
