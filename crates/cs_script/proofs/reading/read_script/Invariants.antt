-- The lines that were taken name the events.
use Rattle.cs_script.proofs.ReadingLemmas.{AreNamed}
use Rattle.cs_script.proofs.reading.read_script.Given as goal

abbrev pub invariant-loop-asked : goal.invariant-loop-asked
invariant-loop-asked g l =
    AreNamed l.catalog (g.R.Read.remaining l.initial.reader) (g.R.Read.remaining l.reader) l.asked l.events.items
