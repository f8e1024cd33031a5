use Rattle.cs_lines.specs.Lines.{ended}
use Rattle.cs_node_lines.proofs.FollowingLemmas.Several.{several_cut, several_failed, several_replied}
use Rattle.cs_node_lines.proofs.following.next.next_several.Goals as goal

pub returns-in-Ok-Some : goal.returns-in-Ok-Some
returns-in-Ok-Some g c = λ input took is.
    let gathers = rw c.in-Ok-Some.field-0-is at c.in-Ok-Some.ensures in
    several_replied g.S.RowStore c.args.catalog.now c.args.count c.args.line.now.items c.gathered_reply.result (g.R.LineInput.failed c.gather_lines.new.reader)
    input (ended (g.R.Read.remaining c.args.reader.now)) (ended (g.R.Read.remaining c.gather_lines.new.reader)) gathers.0 c.args.replica.now c.gathered_reply.new.replica
    is took gathers.1 gathers.2 (c.gathered_reply.ensures gathers.0 gathers.3)

pub returns-in-Ok-None : goal.returns-in-Ok-None
returns-in-Ok-None g c = λ input took is.
    several_cut g.S.RowStore c.args.catalog.now c.args.count c.args.line.now.items (g.R.LineInput.failed c.gather_lines.new.reader)
    input (ended (g.R.Read.remaining c.args.reader.now)) (ended (g.R.Read.remaining c.gather_lines.new.reader)) c.args.replica.now is took (rw c.in-Ok-None.field-0-is at c.in-Ok-None.ensures)

pub returns-in-Err : goal.returns-in-Err
returns-in-Err g c = λ input took is.
    several_failed g.S.RowStore c.args.catalog.now c.args.count c.args.line.now.items c.in-Err.fault (g.R.LineInput.failed c.gather_lines.new.reader)
    input (ended (g.R.Read.remaining c.args.reader.now)) (ended (g.R.Read.remaining c.gather_lines.new.reader)) c.args.replica.now is took c.in-Err.ensures
