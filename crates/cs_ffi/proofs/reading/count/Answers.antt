use Rattle.std.proofs.Common.{arith}
use Rattle.cs_ffi.proofs.Counts.{count-spelled, tells-answer}
use Rattle.cs_ffi.proofs.reading.count.Goals as goal

pub count_changes-requires : goal.count_changes-requires
count_changes-requires c =
    let bound = count-spelled c.as_slice.result.now in
    let there = c.as_slice.ensures in
    let spelled = c.in-Ok.ensures.reads.1 in
    grind (arith, bound, there, spelled)

pub returns-in-Ok-clause-told : goal.returns-in-Ok-clause-told
returns-in-Ok-clause-told c = λ fault offset is. absurd (c.in-Ok.ensures.told fault offset is)

pub returns-in-Err-clause-told : goal.returns-in-Err-clause-told
returns-in-Err-clause-told c = λ fault offset is. rw c.refused.ensures (tells-answer _ fault offset (c.in-Err.ensures.told fault offset is))
