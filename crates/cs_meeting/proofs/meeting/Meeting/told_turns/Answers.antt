use Rattle.std.proofs.Common.{◌∙◌, arith, sym}
use Rattle.cs_meeting.proofs.Told.{met_all, met_fault, met_more, met_rest, met_still}
use Rattle.cs_meeting.proofs.meeting.Meeting.told_turns.Goals as goal

pub returns-in_default-clause-told : goal.returns-in_default-clause-told
returns-in_default-clause-told g c =
    met_rest g.S.RowStore c.args.wish c.loop-turn._turn (omega arith) (g.W.LineOutput.failed c.loop-turn.writer) (g.W.Write.contents c.args.writer.now) (g.W.Write.contents c.loop-turn.writer) c.args.self.now c.loop-turn.self
    c.loop-turn.invariant.0 (sym c.next_ask.ensures ∙ c.in_default.is)

pub returns-in-Ok-false-clause-told : goal.returns-in-Ok-false-clause-told
returns-in-Ok-false-clause-told g c =
    met_still g.S.RowStore c.args.wish c.loop-turn._turn (omega arith) (g.W.LineOutput.failed c.told_turn.new.writer) (g.W.Write.contents c.args.writer.now) (g.W.Write.contents c.loop-turn.writer) (g.W.Write.contents c.told_turn.new.writer)
    c.args.self.now c.loop-turn.self c.told_turn.new.self c.loop-turn.invariant.0 (rw c.in-Ok-false.field-0-test at c.in-Ok-false.ensures.told)

pub returns-in-Err-clause-told : goal.returns-in-Err-clause-told
returns-in-Err-clause-told g c =
    met_fault g.S.RowStore c.args.wish c.in-Err.fault c.loop-turn._turn (g.W.LineOutput.failed c.told_turn.new.writer) (g.W.Write.contents c.args.writer.now) (g.W.Write.contents c.loop-turn.writer) (g.W.Write.contents c.told_turn.new.writer)
    c.args.self.now c.loop-turn.self c.told_turn.new.self c.loop-turn.invariant.0 c.in-Err.ensures.told

pub loop-turn-preserved : goal.loop-turn-preserved
loop-turn-preserved g c = (
  met_more g.S.RowStore c.args.wish c.loop-turn._turn (g.W.LineOutput.failed c.told_turn.new.writer) (g.W.Write.contents c.args.writer.now) (g.W.Write.contents c.loop-turn.writer) (g.W.Write.contents c.told_turn.new.writer)
      c.args.self.now c.loop-turn.self c.told_turn.new.self c.loop-turn.invariant.0 (rw c.in-Ok-true.field-0-test at c.in-Ok-true.ensures.told),
  λ _. c.in-Ok-true.ensures.sent,
  c.told_turn.ensures.catalog ∙ c.loop-turn.invariant.2,
)

pub returns-clause-told : goal.returns-clause-told
returns-clause-told g c =
    met_all g.S.RowStore c.args.wish c.loop-turn._turn (g.W.LineOutput.failed c.loop-turn.writer) (g.W.Write.contents c.args.writer.now) (g.W.Write.contents c.loop-turn.writer) c.args.self.now c.loop-turn.self
    c.loop-turn.invariant.0 (omega arith)
