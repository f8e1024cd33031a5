use Rattle.std.proofs.lemmas.Result.{err_from_is_err_and}
use Rattle.std.specs.Prelude.{Some}
use Rattle.cs_script.specs.Turns.{TakesEvent}
use Rattle.std.proofs.Common.{subst}
use Rattle.cs_script.proofs.ReadingLemmas.{named_more, named_none, not_named}
use Rattle.cs_script.proofs.reading.read_script.Goals as goal

pub loop-asked-init : goal.loop-asked-init
loop-asked-init g c = named_none c.lines_taken.ensures.none c.args.catalog.now (g.R.Read.remaining c.args.reader.now) _ c.new-events.ensures.items

pub loop-asked-preserved : goal.loop-asked-preserved
loop-asked-preserved g c =
    let took : TakesEvent c.args.catalog.now (Some c.in-Some.event) (g.R.Read.remaining c.loop-asked.reader) (g.R.Read.remaining c.next_event.new.reader) =
    subst (λ found. TakesEvent c.args.catalog.now found (g.R.Read.remaining c.loop-asked.reader) (g.R.Read.remaining c.next_event.new.reader)) c.in-Some.is c.in_ok-event.ensures.ok in
    named_more c.lines_taken.ensures.more c.args.catalog.now (g.R.Read.remaining c.args.reader.now) (g.R.Read.remaining c.loop-asked.reader) (g.R.Read.remaining c.next_event.new.reader)
    c.loop-asked.asked c.loop-asked.events.items c.push.new.self.items c.in-Some.event c.in_ok-push-in-Some.ensures.items c.loop-asked.invariant took

pub returns-in_err-event-clause-err : goal.returns-in_err-event-clause-err
returns-in_err-event-clause-err g c =
    let out = err_from_is_err_and c.from_residual.result c.from_residual.ensures.1 in
    rw (out.1, out.2) (not_named c.lines_taken.ensures.more c.args.catalog.now (g.R.LineInput.failed c.next_event.new.reader) (g.R.Read.remaining c.args.reader.now) (g.R.Read.remaining c.loop-asked.reader) (g.R.Read.remaining c.next_event.new.reader)
    c.loop-asked.asked c.loop-asked.events.items _ c.loop-asked.invariant c.in_err-event.ensures.err)
