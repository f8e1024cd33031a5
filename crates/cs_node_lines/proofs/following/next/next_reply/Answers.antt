use Rattle.std.proofs.Common.{◌≡◌, sym}
use Rattle.std.specs.Prelude.{None}
use Rattle.cs_lines.specs.Lines.{ended}
use Rattle.cs_node_lines.specs.asks.Several.{several_in}
use Rattle.cs_node_lines.proofs.FollowingLemmas.Followed.{alone_lacking, alone_replied, line_lacking}
use Rattle.cs_node_lines.proofs.following.next.next_reply.Goals as goal

pub returns-in-Ok : goal.returns-in-Ok
returns-in-Ok g c =
    let items = c.read_ended_line.new.line.items in
    let is : several_in items ≡ None = rw c.as_slice.ensures.value at (sym c.in-None.ensures) in
    let took = rw c.in-Ok-Whole.field-0-is at c.in-Ok-Whole.ensures.read in
    alone_replied g.S.RowStore c.args.catalog.now items c.in-Ok.reply (g.R.LineInput.failed c.read_ended_line.new.reader) (ended (g.R.Read.remaining c.args.reader.now)) (ended (g.R.Read.remaining c.read_ended_line.new.reader))
    c.args.replica.now c.follow_line.new.replica is took (rw c.as_slice-in-None.ensures.value at c.in-Ok.ensures)

pub returns-in-Err-follow_line : goal.returns-in-Err-follow_line
returns-in-Err-follow_line g c =
    let items = c.read_ended_line.new.line.items in
    let is : several_in items ≡ None = rw c.as_slice.ensures.value at (sym c.in-None.ensures) in
    let took = rw c.in-Ok-Whole.field-0-is at c.in-Ok-Whole.ensures.read in
    alone_lacking g.S.RowStore c.args.catalog.now items _ (g.R.LineInput.failed c.read_ended_line.new.reader) (ended (g.R.Read.remaining c.args.reader.now)) (ended (g.R.Read.remaining c.read_ended_line.new.reader))
    c.args.replica.now c.follow_line.new.replica is took (rw c.as_slice-in-None.ensures.value at c.in-Err-follow_line.ensures)

pub returns-in-Ok-Skipped : goal.returns-in-Ok-Skipped
returns-in-Ok-Skipped g c =
    line_lacking g.S.RowStore c.args.catalog.now (g.R.LineInput.failed c.read_ended_line.new.reader) (ended (g.R.Read.remaining c.args.reader.now)) (ended (g.R.Read.remaining c.read_ended_line.new.reader)) c.args.replica.now
    (rw c.in-Ok-Skipped.field-0-is at c.in-Ok-Skipped.ensures.read)
