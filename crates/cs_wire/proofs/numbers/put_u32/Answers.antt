use Rattle.std.proofs.Common.{refl}
use Rattle.cs_wire.specs.Numbers.{four_bytes}
use Rattle.cs_wire.proofs.numbers.put_u32.Goals as goal

pub returns-clause-items : goal.returns-clause-items
unfolding four_bytes
returns-clause-items c = rw (c.put.ensures.items, c.to_be_bytes.ensures) refl
