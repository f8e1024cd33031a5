-- So many turns were taken and are printed.
use Rattle.std.proofs.Common.{◌≡◌}
use Rattle.cs_meeting.proofs.Told.{MetSo}
use Rattle.cs_meeting.proofs.meeting.Meeting.told_turns.Given as goal

abbrev pub invariant-loop-turn : goal.invariant-loop-turn
invariant-loop-turn g l =
    MetSo g.S.RowStore l.wish l._turn (g.W.Write.contents l.initial.writer) (g.W.Write.contents l.writer) l.initial.self l.self
    × (g.W.LineOutput.sent l.initial.writer → g.W.LineOutput.sent l.writer) × (l.self.hub.catalog ≡ l.catalog)
