use Rattle.std.proofs.Common.{arith}
use Rattle.cs_store.proofs.LogLemmas.Begins.{four_front}
use Rattle.cs_store.proofs.log.body.split_width.Goals as goal

pub returns : goal.returns
returns c =
    let cut = c.in_ok-front.ensures.cases in
    rw cut.1 (four_front c.args.bytes.now c.in_ok-front.front.now c.from_be_bytes.result cut.0 (omega (arith, cut.2)) (λ i. omega (arith, c.type_inv.bytes i)) c.from_be_bytes.ensures)
