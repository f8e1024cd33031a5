use Rattle.std.proofs.Common.{◌≡◌, length}
use Rattle.cs_apply.proofs.Giving.{AreGiven, AreKept}
use Rattle.cs_apply.proofs.numbers.put_numbers.Given as goal

-- so many of the groups have their numbers
abbrev pub invariant-loop-number : goal.invariant-loop-number
invariant-loop-number l =
    (length l.told ≡ length l.fn.told)
    × AreGiven l.fn.groups l.fn.waiting l.number l.told
    × AreKept l.fn.groups l.fn.waiting l.number l.fn.told l.told
