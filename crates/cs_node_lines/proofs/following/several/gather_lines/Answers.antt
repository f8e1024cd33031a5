use Rattle.cs_lines.specs.Lines.{ended}
use Rattle.cs_node_lines.proofs.FollowingLemmas.Gathering.{gathering_on}
use Rattle.cs_node_lines.proofs.following.several.gather_lines.Goals as goal

pub loop-taken-preserved : goal.loop-taken-preserved
loop-taken-preserved g c =
    gathering_on c.args.catalog.now c.lines_taken.ensures.more c.loop-taken._taken c.loop-taken.gathered c.in-Ok-Some.next (g.R.LineInput.failed c.gather_next.new.reader)
    (ended (g.R.Read.remaining c.args.reader.now)) (ended (g.R.Read.remaining c.loop-taken.reader)) (ended (g.R.Read.remaining c.gather_next.new.reader))
    c.loop-taken.invariant (rw c.in-Ok-Some.field-0-is at c.in-Ok-Some.ensures)
