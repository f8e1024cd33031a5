use Rattle.std.proofs.Common.{◌≡◌, ◌++◌, map, take}
use Rattle.cs_group.proofs.lent.put_part.Given as goal

abbrev pub invariant-loop-change : goal.invariant-loop-change
invariant-loop-change l = l.of.items ≡ l.fn.of.items ++ map (λ _. l.part) (take l._change-index l.changes)
