use Rattle.cs_tools.proofs.InputLemmas.{AreFirst}
use Rattle.cs_tools.proofs.input.read_all.Given as goal

abbrev pub invariant-loop-bytes : goal.invariant-loop-bytes
invariant-loop-bytes l = AreFirst l.inputs l.bytes-index l.changesets.items
