use Rattle.std.proofs.Common.{ap₂, arith}
use Rattle.cs_wire.specs.Requests.{AsksCatch}
use Rattle.cs_wire.specs.declared.request.RequestBuf.TheVariants as request
use Rattle.cs_meeting.specs.declared.ask.TheConstants.{AT_ONCE}
use Rattle.cs_meeting.proofs.Asking.{asks_catch, asks_push, asks_resend}
use Rattle.cs_meeting.proofs.meeting.Meeting.ask.Goals as goal

pub returns-in-Catch-clause-asks : goal.returns-in-Catch-clause-asks
returns-in-Catch-clause-asks g c =
    rw (← c.self.view_is, c.in-Catch.is) (asks_catch g.S.RowStore c.steps_are_sound.ensures (omega (arith, c.most_entries.ensures)) c.self.inside.hub c.self.inside.replica (request.Catch c.id.result c.version.result AT_ONCE)
    (ap₂ (λ i v. AsksCatch i v AT_ONCE) c.id.ensures c.version.ensures) (omega arith))

pub returns-in-Resend-clause-asks : goal.returns-in-Resend-clause-asks
returns-in-Resend-clause-asks g c =
    rw (← c.self.view_is, c.in-Resend.is) (asks_resend g.S.RowStore c.steps_are_sound.ensures (omega (arith, c.most_entries.ensures)) c.self.inside.hub c.self.inside.replica c.resend.result c.resend.ensures.resent)

pub returns-in-Push-clause-asks : goal.returns-in-Push-clause-asks
returns-in-Push-clause-asks g c =
    rw (← c.self.view_is, c.in-Push.is) (asks_push g.S.RowStore c.steps_are_sound.ensures (omega (arith, c.most_entries.ensures)) c.self.inside.hub c.self.inside.replica c.make_push.new.self c.make_push.result c.make_push.ensures.turned)
