use Rattle.std.proofs.Common.{Ok, ◌+◌, ◌≡◌, inl, rules, subst}
use Rattle.cs_store.specs.Calls.{MoreFailures}
use Rattle.cs_hub.specs.judgement.Hub.{with_entry}
use Rattle.cs_hub.specs.judgement.Judged.{CanBeAppended, hub_of}
use Rattle.cs_hub.specs.judgement.Widens.{WidenAsked}
use Rattle.cs_hub.specs.declared.judgement.push.Judgement.{Judgement}
use Rattle.cs_hub.specs.declared.judgement.push.Pushed.TheVariants.{Accepted}
use Rattle.cs_hub.specs.Serves.{push_answer}
use Rattle.cs_hub.specs.Steps.{IsEntryToAppend, JudgesWiden}
use Rattle.cs_wire.specs.Answers.{answer_spelling}
use Rattle.cs_hub.proofs.Looked.{fits_behind, widen_answered, widen_refusal_told}
use Rattle.cs_hub.proofs.judging.widen_told.Goals as goal

pub returns-in-Ok-Append-clause-judged : goal.returns-in-Ok-Append-clause-judged
returns-in-Ok-Append-clause-judged g c = λ honest log shows.
    let hub = hub_of c.args.catalogs.now.opening log in
    let asked : WidenAsked = record { number = c.args.head.number; base = c.args.head.base; table = c.args.table.now; width = c.args.width } in
    let of = subst (IsEntryToAppend c.args.catalogs.now c.args.limit c.args.head) c.in-Ok-Append.field-0-is c.in-Ok-Append.ensures.of in
    let appends = subst (CanBeAppended c.args.catalogs.now (g.S.RowStore.contents c.args.store.now)) c.in-Ok-Append.field-0-is (c.in-Ok-Append.ensures.appends honest) in
    let judged = subst (λ (j : Judgement). JudgesWiden (MoreFailures (g.S.RowStore.failed c.args.store.now) (g.S.RowStore.failed c.judge_columns.new.store)) c.args.limit hub asked (Ok j))
    c.in-Ok-Append.field-0-is (c.in-Ok-Append.ensures.judged honest log shows) in
    let last = of.1 in
    let told : c.put.new.out.items ≡ answer_spelling (push_answer c.args.head (Ok (Accepted (c.args.head.base + 1)))) = search (rules, last) in (
      fits_behind c.catalog_by_widens.ensures c.args.catalogs.now (g.S.RowStore.contents c.args.store.now) log shows c.in-Ok-Append.entry c.in-Ok-Append.batch of.0 appends,
      widen_answered c.args.limit hub (with_entry hub c.in-Ok-Append.entry) c.args.head c.args.table.now c.args.width c.requires (Ok (Accepted (c.args.head.base + 1))) c.put.new.out.items judged told,
    )

pub returns-in_ok-tell-in-Ok-Told-clause-judged : goal.returns-in_ok-tell-in-Ok-Told-clause-judged
returns-in_ok-tell-in-Ok-Told-clause-judged g c = λ honest log shows.
    let hub = hub_of c.args.catalogs.now.opening log in
    let asked : WidenAsked = record { number = c.args.head.number; base = c.args.head.base; table = c.args.table.now; width = c.args.width } in
    let judged = subst (λ (j : Judgement). JudgesWiden (MoreFailures (g.S.RowStore.failed c.args.store.now) (g.S.RowStore.failed c.judge_columns.new.store)) c.args.limit hub asked (Ok j))
    c.in-Ok-Told.field-0-is (c.in-Ok-Told.ensures.judged honest log shows) in
    inl (widen_answered c.args.limit hub hub c.args.head c.args.table.now c.args.width c.requires (Ok c.in-Ok-Told.pushed) c.in_ok-tell-in-Ok-Told.field-0.items judged c.in_ok-tell-in-Ok-Told.ensures.1)

pub returns-in_ok-tell-in-Err-clause-judged : goal.returns-in_ok-tell-in-Err-clause-judged
returns-in_ok-tell-in-Err-clause-judged g c = λ honest log shows.
    let hub = hub_of c.args.catalogs.now.opening log in
    widen_refusal_told (MoreFailures (g.S.RowStore.failed c.args.store.now) (g.S.RowStore.failed c.judge_columns.new.store)) c.args.limit hub c.args.head c.args.table.now c.args.width c.requires
    c.in_ok-tell-in-Err.field-0.items c.in-Err.refusal c.in_ok-tell-in-Err.ensures.0 c.in_ok-tell-in-Err.ensures.1 (c.in-Err.ensures.judged honest log shows)
