use Rattle.std.proofs.Common.{◌≡◌, ◌+◌, ◌++◌, length, take, drop}
use Rattle.std.specs.Prelude.{slice_range}
use Rattle.cs_apply.proofs.edits.move_edits.Given as goal

-- so many are moved
abbrev pub invariant-loop-at : goal.invariant-loop-at
invariant-loop-at l = record {
  next : l.next + l.fn.from ≡ l.fn.kept + l.at;
  moved : take l.next l.edits ≡ take l.fn.kept l.fn.edits ++ slice_range l.fn.edits l.fn.from l.at;
  behind : drop l.at l.edits ≡ drop l.at l.fn.edits;
  as_many : length l.edits ≡ length l.fn.edits;
}
