use Rattle.std.proofs.Common.{arith}
use Rattle.cs_ffi.proofs.Counts.{tells-behind}
use Rattle.cs_ffi.proofs.combined.read_part.Goals as goal

pub overflow_add-at : goal.overflow_add-at
overflow_add-at c =
    let within = c.in-Err-At.ensures.within c.in-Err-At.fault c.in-Err-At.offset (rw c.in-Err-At.field-0-is at c.in-Err-At.ensures.reads) in
    let requires = c.requires in
    omega (arith, within, requires)

pub returns-in-Err-At-clause-told : goal.returns-in-Err-At-clause-told
returns-in-Err-At-clause-told c = λ fault offset is.
    let found = c.in-Err-At.ensures.told fault offset is in
    tells-behind c.args.at c.in-Err-At.fault fault c.in-Err-At.offset offset c.refused.result c.refused.ensures (rw c.in-Err-At.field-0-is at found)
