-- The lines up to what the reader has left were answered, and what was sent is sent still.
use Rattle.cs_lines.proofs.ServedLemmas.{HasServed}
use Rattle.cs_lines.proofs.serve.serve_lines.Given as goal

abbrev pub invariant-loop-asked : goal.invariant-loop-asked
invariant-loop-asked g l =
    HasServed g.S.Serve.serves g.S.Serve.stays (g.R.Read.remaining l.initial.reader) (g.R.Read.remaining l.reader) l.initial.server
    l.server (g.W.Write.contents l.initial.writer) (g.W.Write.contents l.writer) l.asked
    × (g.W.LineOutput.sent l.initial.writer → g.W.LineOutput.sent l.writer)
