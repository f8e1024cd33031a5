use Rattle.cs_node_lines.proofs.FollowingLemmas.Sees.{hears_noting}
use Rattle.cs_node_lines.proofs.following.seeing.tell_noting.Goals as goal

pub returns-clause-turned : goal.returns-clause-turned
returns-clause-turned g c =
    hears_noting g.S.RowStore c.args.catalog.now c.args.answer.now c.args.wishes.now c.answer-told.result _ c.answer-told.new.picker c.into_note.result c.args.replica.now c.answer-told.new.self
    c.new-picker.ensures c.into_note.ensures c.answer-told.ensures.told c.answer-told.ensures.turned
