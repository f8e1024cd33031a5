use Rattle.cs_tools.proofs.InputLemmas.{taken_none}
use Rattle.cs_tools.proofs.input.next_or_empty.Goals as goal

pub returns-clause-ok : goal.returns-clause-ok
returns-clause-ok g c =
    let none = rw c.in-None.is at c.in_ok-bytes.ensures.ok in taken_none _ _ _ c.new.ensures.items none.0 none.1
