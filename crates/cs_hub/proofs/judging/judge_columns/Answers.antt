use Rattle.std.proofs.Common.{Err, ap}
use Rattle.cs_store.specs.Calls.{MoreFailures}
use Rattle.cs_hub.specs.judgement.Judged.{hub_of}
use Rattle.cs_hub.proofs.Looked.{widen_refused_so, widen_so, widen_to_append_of}
use Rattle.cs_hub.proofs.judging.judge_columns.Goals as goal

pub returns-in-Ok-clause-of : goal.returns-in-Ok-clause-of
returns-in-Ok-clause-of g c = widen_to_append_of c.args.catalogs.now c.args.limit c.args.head c.args.table.now c.args.width c.requires c.in-Ok.judgement c.in-Ok.ensures.of

pub returns-in-Ok-clause-judged : goal.returns-in-Ok-clause-judged
returns-in-Ok-clause-judged g c = λ honest log shows.
    widen_so (MoreFailures (g.S.RowStore.failed c.args.store.now) (g.S.RowStore.failed c.judge_widen.new.store)) c.args.limit (hub_of c.args.catalogs.now.opening log)
    (record { number = c.args.head.number; base = c.args.head.base; table = c.args.table.now; width = c.args.width }) c.in-Ok.judgement (c.in-Ok.ensures.judged honest log shows)

pub returns-in-Err-clause-judged : goal.returns-in-Err-clause-judged
returns-in-Err-clause-judged g c = λ honest log shows.
    rw c.from.ensures
    (widen_refused_so (MoreFailures (g.S.RowStore.failed c.args.store.now) (g.S.RowStore.failed c.judge_widen.new.store)) c.args.limit (hub_of c.args.catalogs.now.opening log)
    (record { number = c.args.head.number; base = c.args.head.base; table = c.args.table.now; width = c.args.width }) c.in-Err.fault
    (λ is. c.in-Err.ensures.reads.cause (ap (λ fault. Err fault) is)) (c.in-Err.ensures.judged honest log shows))
