-- What was skipped has no line feed, and `at_end` is what is told of it at the end.
use Rattle.cs_lines.proofs.ReadLemmas.{HasPassed}
use Rattle.cs_lines.proofs.streams.skip_bytes.Given as goal

abbrev pub invariant-loop : goal.invariant-loop
invariant-loop g l = HasPassed (g.R.Read.remaining l.initial.reader) (g.R.Read.remaining l.reader) l.at_end
