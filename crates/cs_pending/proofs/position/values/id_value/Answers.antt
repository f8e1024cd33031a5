use Rattle.std.proofs.Common.{refl}
use Rattle.cs_wire.specs.Numbers.{four_bytes}
use Rattle.cs_pending.proofs.position.values.id_value.Goals as goal

pub returns : goal.returns
unfolding four_bytes
returns c = rw (c.in_ok-from_slice.ensures.items, c.to_be_bytes.ensures) refl
