use Rattle.std.proofs.Common.{Err, Ok, min}
use Rattle.cs_wire.specs.Requests.{AsksCatch, AsksPull, AsksPush, AsksWiden}
use Rattle.cs_store.specs.declared.log.entry.TheConstants.{MAX_ENTRIES}
use Rattle.cs_hub.specs.declared.judged.Judged.TheVariants.{Reply}
use Rattle.cs_hub.proofs.Answered.{read_as}
use Rattle.cs_hub.proofs.Looked.{asked_so, each_so, no_request_so}
use Rattle.cs_hub.proofs.hub.Hub.judge.Goals as goal

pub returns-in_ok-refuse-in-Err-clause-judged : goal.returns-in_ok-refuse-in-Err-clause-judged
returns-in_ok-refuse-in-Err-clause-judged g c = λ honest log shows.
    asked_so _ (min c.args.limit MAX_ENTRIES) _ log c.args.request.now (Err c.in-Err.fault) (Reply c.in_ok-refuse-in-Err.field-0) ((c.decode.ensures.fault c.in-Err.fault).0 c.in-Err.is)
    (no_request_so _ (min c.args.limit MAX_ENTRIES) _ log c.in-Err.fault c.in_ok-refuse-in-Err.field-0 c.in_ok-refuse-in-Err.ensures)

pub returns-in_ok-pull_at-in-Ok-Pull-clause-judged : goal.returns-in_ok-pull_at-in-Ok-Pull-clause-judged
returns-in_ok-pull_at-in-Ok-Pull-clause-judged g c =
    rw (← c.self.view_is)
    (λ honest log shows.
    asked_so _ (min c.args.limit MAX_ENTRIES) _ log c.args.request.now (Ok (AsksPull c.in-Ok-Pull.first c.in-Ok-Pull.limit)) (Reply c.in_ok-pull_at-in-Ok-Pull.field-0) (read_as _ _ _ c.in-Ok-Pull.field-0-is c.in-Ok-Pull.ensures.found)
    (c.in_ok-pull_at-in-Ok-Pull.ensures.answered honest log shows))

pub returns-in_ok-catch_told-in-Ok-Catch-clause-judged : goal.returns-in_ok-catch_told-in-Ok-Catch-clause-judged
returns-in_ok-catch_told-in-Ok-Catch-clause-judged g c =
    rw (← c.self.view_is)
    (λ honest log shows.
    asked_so _ (min c.args.limit MAX_ENTRIES) _ log c.args.request.now (Ok (AsksCatch c.in-Ok-Catch.origin c.in-Ok-Catch.first c.in-Ok-Catch.limit)) (Reply c.in_ok-catch_told-in-Ok-Catch.field-0) (read_as _ _ _ c.in-Ok-Catch.field-0-is c.in-Ok-Catch.ensures.found)
    (c.in_ok-catch_told-in-Ok-Catch.ensures.answered honest log shows))

pub returns-in-Ok-Widen-clause-judged : goal.returns-in-Ok-Widen-clause-judged
returns-in-Ok-Widen-clause-judged g c =
    rw (← c.self.view_is)
    (λ honest log shows.
    each_so _ c.min-limit.result _ log c.args.request.now (Ok (AsksWiden c.in-Ok-Widen.number c.in-Ok-Widen.base c.in-Ok-Widen.width c.in-Ok-Widen.table.now)) _ c.widen_told.result c.min-limit.ensures
    (read_as _ _ _ c.in-Ok-Widen.field-0-is c.in-Ok-Widen.ensures.found) ((rw c.widen_head.ensures at c.widen_told.ensures.judged) honest log shows))

pub returns-in-Ok-Push-clause-judged : goal.returns-in-Ok-Push-clause-judged
returns-in-Ok-Push-clause-judged g c =
    rw (← c.self.view_is)
    (λ honest log shows.
    each_so _ c.min-limit.result _ log c.args.request.now (Ok (AsksPush c.in-Ok-Push.head c.in-Ok-Push.changeset.now)) _ c.judge_told.result c.min-limit.ensures
    (read_as _ _ _ c.in-Ok-Push.field-0-is c.in-Ok-Push.ensures.found) (c.judge_told.ensures.judged honest log shows))
