use Rattle.std.proofs.Common.{refl}
use Rattle.cs_wire.specs.Numbers.{eight_bytes}
use Rattle.cs_wire.proofs.numbers.put_u64.Goals as goal

pub returns-clause-items : goal.returns-clause-items
unfolding eight_bytes
returns-clause-items c = rw (c.put.ensures.items, c.to_be_bytes.ensures) refl
