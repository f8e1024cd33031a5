use Rattle.std.proofs.Common.{List, ap, sym, ℕ}
use Rattle.cs_node_lines.specs.told.Told.{push_fault_text}
use Rattle.cs_node_lines.specs.working.Texts.{refused_text}
use Rattle.cs_meeting.proofs.Turning.{goes_refused, turn_of_request}
use Rattle.cs_meeting.proofs.meeting.Meeting.turn.Goals as goal

pub returns-in-Ok-clause-makes : goal.returns-in-Ok-clause-makes
returns-in-Ok-clause-makes g c =
    turn_of_request g.S.RowStore c.args.ask c.in-Ok.request c.args.wishes.now c.deliver.result c.args.self.now c.ask.new.self c.deliver.new.self (rw c.in-Ok.is at c.ask.ensures.asks) c.deliver.ensures.delivers

pub returns-in-Err-clause-makes : goal.returns-in-Err-clause-makes
returns-in-Err-clause-makes g c = (
  refused_text (push_fault_text c.in-Err.fault),
  ap (λ (name : List ℕ). refused_text name) (sym c.push_fault_name.ensures),
  goes_refused g.S.RowStore c.args.ask c.in-Err.fault c.args.wishes.now c.args.self.now c.ask.new.self (rw c.in-Err.is at c.ask.ensures.asks),
)
