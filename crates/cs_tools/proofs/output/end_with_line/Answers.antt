use Rattle.std.proofs.Common.{inr, refl}
use Rattle.cs_lines.specs.Lines.{hex_line}
use Rattle.cs_tools.proofs.EndingLemmas.{ok_owes}
use Rattle.cs_tools.proofs.output.end_with_line.Goals as goal

pub returns-clause-ends : goal.returns-clause-ends
returns-clause-ends g c =
    let front = rw c.deref.ensures.value at c.in-Err.ensures.front in
    inr (refl, (hex_line c.in_ok-bytes.bytes.items, ok_owes c.args.owed c.in_ok-bytes.bytes (λ bytes. hex_line bytes.items) c.in_ok-bytes.was, front, c.in-Err.ensures.failed))
