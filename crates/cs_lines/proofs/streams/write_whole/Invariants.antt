-- The bytes up to `rest` are written.
use Rattle.cs_lines.proofs.WriteLemmas.{HasWrittenUpTo}
use Rattle.cs_lines.proofs.streams.write_whole.Given as goal

abbrev pub invariant-loop : goal.invariant-loop
invariant-loop g l = HasWrittenUpTo (g.W.Write.contents l.initial.writer) (g.W.Write.contents l.writer) l.bytes l.rest
