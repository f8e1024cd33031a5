use Rattle.std.proofs.Common.{Err, ap, arith, length}
use Rattle.cs_store.specs.Calls.{MoreFailures}
use Rattle.cs_hub.proofs.Looked.{has_form_at, judged_so, refused_so, to_append_of}
use Rattle.cs_hub.proofs.judging.judge_bytes.Goals as goal

pub judge_at-requires-clause-fits : goal.judge_at-requires-clause-fits
judge_at-requires-clause-fits g c = (rw c.judging.ensures at c.in_ok-changes.ensures.normal).of_catalog

pub returns-in-Ok-clause-of : goal.returns-in-Ok-clause-of
returns-in-Ok-clause-of g c =
    to_append_of c.args.catalogs.now c.args.limit c.args.head c.in_ok-changes.changes (rw c.judging.ensures at c.in_ok-changes.ensures.normal).normal (rw c.judging.ensures at c.in_ok-changes.ensures.normal).of_catalog (omega (arith, c.requires, c.in_ok-changes.ensures.shorter, ap length c.in_ok-groups.ensures.reads.1)) c.in-Ok.judgement c.in-Ok.ensures.of

pub returns-in-Ok-clause-judged : goal.returns-in-Ok-clause-judged
returns-in-Ok-clause-judged g c = λ honest log shows.
    judged_so (MoreFailures (g.S.RowStore.failed c.args.store.now) (g.S.RowStore.failed c.judge_at.new.store)) c.args.limit c.args.head c.args.changeset.now c.args.catalogs.now.opening log c.in_ok-changes.changes
    (has_form_at c.catalog_by_widens.ensures c.args.catalogs.now (g.S.RowStore.contents c.args.store.now) log shows c.args.head _ _ _ c.in_ok-groups.ensures.reads (rw c.judging.ensures at c.in_ok-changes.ensures.normal)) c.in-Ok.judgement (c.in-Ok.ensures.judged honest log shows)

pub returns-clause-judged : goal.returns-clause-judged
returns-clause-judged g c = λ honest log shows.
    rw c.from.ensures
    (refused_so (MoreFailures (g.S.RowStore.failed c.args.store.now) (g.S.RowStore.failed c.judge_at.new.store)) c.args.limit c.args.head c.args.changeset.now c.args.catalogs.now.opening log c.in_ok-changes.changes
    (has_form_at c.catalog_by_widens.ensures c.args.catalogs.now (g.S.RowStore.contents c.args.store.now) log shows c.args.head _ _ _ c.in_ok-groups.ensures.reads (rw c.judging.ensures at c.in_ok-changes.ensures.normal)) c.in-Err.fault
    (λ is. c.in-Err.ensures.reads.cause (ap (λ fault. Err fault) is)) (c.in-Err.ensures.judged honest log shows))
