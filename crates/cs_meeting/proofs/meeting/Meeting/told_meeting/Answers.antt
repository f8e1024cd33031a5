use Rattle.cs_node_lines.specs.told.Dump.{replica_text}
use Rattle.cs_text.specs.Text.{line}
use Rattle.cs_meeting.proofs.Told.{told_place, untold_place}
use Rattle.cs_meeting.proofs.meeting.Meeting.told_meeting.Goals as goal

pub returns-in-Ok-tell_place-clause-told : goal.returns-in-Ok-tell_place-clause-told
returns-in-Ok-tell_place-clause-told g c =
    told_place g.S.RowStore c.args.wish c.in-Ok.at_rest (g.W.LineOutput.failed c.told_turns.new.writer) (g.W.Write.contents c.args.writer.now) (g.W.Write.contents c.told_turns.new.writer) (g.W.Write.contents c.tell_place.new.writer)
    c.args.self.now c.told_turns.new.self (line (replica_text c.told_turns.new.self.replica.position.id c.told_turns.new.self.replica.position)) c.in-Ok.ensures.told c.in-Ok-tell_place.ensures.told

pub returns-in-Err-tell_place-clause-told : goal.returns-in-Err-tell_place-clause-told
returns-in-Err-tell_place-clause-told g c =
    untold_place g.S.RowStore c.args.wish c.in-Ok.at_rest c.in-Err-tell_place.fault (g.W.LineOutput.failed c.told_turns.new.writer) (g.W.LineOutput.failed c.tell_place.new.writer)
    (g.W.Write.contents c.args.writer.now) (g.W.Write.contents c.told_turns.new.writer) (g.W.Write.contents c.tell_place.new.writer)
    c.args.self.now c.told_turns.new.self c.in-Ok.ensures.told c.in-Err-tell_place.ensures.told
