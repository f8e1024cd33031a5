use Rattle.std.proofs.Common.{Ok, Err, arith}
use Rattle.cs_wire.specs.Requests.{asked_of}
use Rattle.cs_wire.specs.declared.fault.WireFault.TheVariants.{Truncated}
use Rattle.cs_wire.proofs.Decoded.{exact_request}
use Rattle.cs_wire.proofs.request.Request.decode.Goals as goal

pub returns-clause-only : goal.returns-clause-only
returns-clause-only c asked fits is =
    c.one_request.ensures c.args.bytes.now (asked_of c.read_request.result) (Ok asked) c.read_request.ensures (fits, is)

pub returns-clause-fault : goal.returns-clause-fault
returns-clause-fault c fault =
    exact_request c.one_request.ensures c.args.bytes.now c.read_request.result fault c.read_request.ensures

pub returns-clause-front : goal.returns-clause-front
returns-clause-front c asked rest fits not goes =
    c.one_request.ensures c.args.bytes.now (asked_of c.read_request.result) (Err Truncated) c.read_request.ensures
    (c.front_of_request.ensures asked c.args.bytes.now rest fits (λ i. omega (arith, c.type_inv.bytes i)) not goes)
