use Rattle.std.proofs.Common.{Ok, subst}
use Rattle.cs_pending.specs.Storing.{went_well}
use Rattle.cs_store.specs.declared.log.entry.TheConstants.{MAX_ENTRIES}
use Rattle.cs_hub.specs.judgement.Judged.{IsJudgement, IsOfPush, hub_of}
use Rattle.cs_hub.specs.judgement.Pushes.{Push}
use Rattle.cs_hub.specs.declared.judgement.push.Judgement.{Judgement}
use Rattle.cs_hub.proofs.Pushed.{then_wrote, then_wrote_not}
use Rattle.cs_hub.proofs.hub.Hub.push.Goals as goal

pub returns-in-Ok-clause-writes : goal.returns-in-Ok-clause-writes
returns-in-Ok-clause-writes g c =
    let push : Push = record { head = c.args.head; changes = c.args.changes } in
    let of = subst (IsOfPush MAX_ENTRIES c.self.inside.catalogs.newest push) c.in-Ok-Append.field-0-is c.in-Ok-Append.ensures.of in
    rw (← c.self.view_is)
    (then_wrote g.S.RowStore MAX_ENTRIES c.self.inside.catalogs push c.in-Ok-Append.entry of.0
    c.self.inside.store c.judge_at.new.store c.append_judged.new.self.store (went_well g.S.RowStore _ _ _ _ _ c.in-Ok-Append.ensures.reads)
    (λ was log shows. subst (λ (j : Judgement). IsJudgement MAX_ENTRIES (hub_of c.self.inside.catalogs.opening log) push (Ok j)) c.in-Ok-Append.field-0-is (c.in-Ok-Append.ensures.judged was log shows))
    _ _ c.in-Ok.ensures.writes)

pub returns-in-Ok-Append-clause-writes : goal.returns-in-Ok-Append-clause-writes
returns-in-Ok-Append-clause-writes g c =
    let push : Push = record { head = c.args.head; changes = c.args.changes } in
    let of = subst (IsOfPush MAX_ENTRIES c.self.inside.catalogs.newest push) c.in-Ok-Append.field-0-is c.in-Ok-Append.ensures.of in
    rw (← c.self.view_is)
    (then_wrote_not g.S.RowStore MAX_ENTRIES c.self.inside.catalogs push c.in-Ok-Append.entry of.0
    c.self.inside.store c.judge_at.new.store c.append_judged.new.self.store (went_well g.S.RowStore _ _ _ _ _ c.in-Ok-Append.ensures.reads)
    (λ was log shows. subst (λ (j : Judgement). IsJudgement MAX_ENTRIES (hub_of c.self.inside.catalogs.opening log) push (Ok j)) c.in-Ok-Append.field-0-is (c.in-Ok-Append.ensures.judged was log shows))
    c.in-Err-append_judged.fault c.from.result c.from.ensures c.in-Err-append_judged.ensures.writes)
