use Rattle.cs_lines.specs.Lines.{ended}
use Rattle.cs_node_lines.proofs.FollowingLemmas.Followed.{ends_following}
use Rattle.cs_node_lines.proofs.WorkingLemmas.Going.{Opened}
use Rattle.cs_node_lines.proofs.following.follow.follow_on.Goals as goal

pub returns-in-Ok-clause-ends : goal.returns-in-Ok-clause-ends
returns-in-Ok-clause-ends g c =
    let opened : Opened g.S.RowStore c.args.id c.args.catalog.now c.args.store c.in-Ok.replica = record {
      was_honest = c.in-Ok.ensures.opens.was_honest;
      count = c.in-Ok.ensures.opens.kept;
      opened = c.in-Ok.ensures.opened;
      shown = c.shown.ensures.shown;
      are = c.in_order.ensures;
      fits = c.shown.ensures.fits;
    } in
    ends_following g.S.RowStore c.args.catalog.now c.args.id c.args.store c.close.result c.follow-ended.result (g.R.LineInput.failed c.follow-ended.new.reader) (g.W.LineOutput.failed c.follow-ended.new.writer)
    (ended (g.R.Read.remaining c.args.reader.now)) (ended (g.R.Read.remaining c.follow-ended.new.reader)) (g.W.Write.contents c.args.writer.now) (g.W.Write.contents c.follow-ended.new.writer)
    c.in-Ok.replica c.follow-ended.new.replica c.close.ensures opened c.follow-ended.ensures.told
