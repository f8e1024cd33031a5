use Rattle.std.proofs.Common.{Ok, Err, arith}
use Rattle.cs_wire.specs.declared.fault.WireFault.TheVariants.{Truncated}
use Rattle.cs_wire.proofs.Decoded.{exact_answer}
use Rattle.cs_wire.proofs.answer.Answer.decode.Goals as goal

pub returns-clause-only : goal.returns-clause-only
returns-clause-only c answer fits is =
    c.one_told_answer.ensures c.args.bytes.now c.read_answer.result (Ok answer) c.read_answer.ensures (fits, is)

pub returns-clause-fault : goal.returns-clause-fault
returns-clause-fault c fault =
    exact_answer c.one_told_answer.ensures c.args.bytes.now c.read_answer.result fault c.read_answer.ensures

pub returns-clause-front : goal.returns-clause-front
returns-clause-front c answer rest fits not goes =
    c.one_told_answer.ensures c.args.bytes.now c.read_answer.result (Err Truncated) c.read_answer.ensures
    (c.front_of_answer.ensures answer c.args.bytes.now rest fits (λ i. omega (arith, c.type_inv.bytes i)) not goes)
