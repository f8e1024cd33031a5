use Rattle.std.proofs.Common.{arith}
use Rattle.cs_wire.proofs.Begins.{eight_front}
use Rattle.cs_wire.proofs.numbers.split_u64.Goals as goal

pub returns : goal.returns
returns c =
    let cut = c.in_ok-front.ensures.cases in
    rw cut.1 (eight_front c.args.bytes.now c.in_ok-front.front.now c.from_be_bytes.result cut.0 (omega (arith, cut.2)) (λ i. omega (arith, c.type_inv.bytes i)) c.from_be_bytes.ensures)
