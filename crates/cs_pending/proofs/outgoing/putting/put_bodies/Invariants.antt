use Rattle.std.proofs.Common.{◌≡◌, ◌++◌, take}
use Rattle.std.specs.List.{flat_map}
use Rattle.cs_store.specs.Written.{pairs_of}
use Rattle.cs_pending.proofs.outgoing.putting.put_bodies.Given as goal

abbrev pub invariant-loop-stored : goal.invariant-loop-stored
invariant-loop-stored l = l.out.items ≡ l.fn.out.items ++ flat_map (λ row. row.1) (pairs_of (take l.stored-index l.listed))
