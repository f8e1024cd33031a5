use Rattle.std.proofs.Common.{arith, min}
use Rattle.std.proofs.lemmas.Result.{IfOk-weaker}
use Rattle.cs_store.specs.declared.log.entry.TheConstants.{MAX_ENTRIES}
use Rattle.cs_hub.proofs.Served.{answered, failed, is_not_served, is_served, not_stored, replies, stored}
use Rattle.cs_hub.proofs.hub.Hub.serve.Goals as goal

pub returns-in-Ok-clause-served : goal.returns-in-Ok-clause-served
returns-in-Ok-clause-served g c =
    answered g.S.RowStore MAX_ENTRIES c.args.request.now c.args.self.now c.judge.new.self c.append_judged.new.self c.judge.ensures.reads c.in-Append.entry c.in-Append.reply
    (λ honest log shows. replies _ (min MAX_ENTRIES MAX_ENTRIES) MAX_ENTRIES _ log c.args.request.now _ c.in-Append.entry c.in-Append.batch c.in-Append.reply (omega arith) c.in-Append.is (c.in_ok-answer.ensures.judged honest log shows))
    _ c.append_judged.ensures.catalog c.in-Ok.ensures.writes c.in-Ok.ensures.appended

pub returns-in-Ok-clause-store : goal.returns-in-Ok-clause-store
returns-in-Ok-clause-store g c =
    stored g.S.RowStore MAX_ENTRIES c.args.request.now c.args.self.now c.judge.new.self c.append_judged.new.self c.judge.ensures.reads c.in-Append.entry c.in-Append.reply
    (λ honest log shows. replies _ (min MAX_ENTRIES MAX_ENTRIES) MAX_ENTRIES _ log c.args.request.now _ c.in-Append.entry c.in-Append.batch c.in-Append.reply (omega arith) c.in-Append.is (c.in_ok-answer.ensures.judged honest log shows))
    _ (is_served c.args.self.now.newest _ c.in-Append.entry c.in-Append.batch c.in-Append.reply c.in-Append.is c.in_ok-answer.ensures.accepts) c.in-Ok.ensures.writes

pub returns-in-Err-Memory-clause-store : goal.returns-in-Err-Memory-clause-store
returns-in-Err-Memory-clause-store g c =
    not_stored g.S.RowStore MAX_ENTRIES c.args.request.now c.args.self.now c.judge.new.self c.append_judged.new.self c.judge.ensures.reads c.in-Append.entry c.in-Append.reply
    (λ honest log shows. replies _ (min MAX_ENTRIES MAX_ENTRIES) MAX_ENTRIES _ log c.args.request.now _ c.in-Append.entry c.in-Append.batch c.in-Append.reply (omega arith) c.in-Append.is (c.in_ok-answer.ensures.judged honest log shows))
    c.in-Err-Memory.field-0 _ tt c.in-Err-Memory.ensures.writes

pub returns-clause-served : goal.returns-clause-served
returns-clause-served g c =
    IfOk-weaker c.refuse.result _ _
    (λ answer is. failed g.S.RowStore MAX_ENTRIES c.args.request.now c.args.self.now c.judge.new.self c.append_judged.new.self c.judge.ensures.reads c.in-Append.entry c.in-Append.reply
    (λ honest log shows. replies _ (min MAX_ENTRIES MAX_ENTRIES) MAX_ENTRIES _ log c.args.request.now _ c.in-Append.entry c.in-Append.batch c.in-Append.reply (omega arith) c.in-Append.is (c.in_ok-answer.ensures.judged honest log shows))
    c.in-Err-Device.field-0 answer.items c.in-Err-Device.field-0-is c.append_judged.ensures.catalog c.in-Err-Device.ensures.kept c.in-Err-Device.ensures.widens c.in-Err-Device.ensures.writes is)
    c.refuse.ensures

pub returns-clause-store : goal.returns-clause-store
returns-clause-store g c =
    not_stored g.S.RowStore MAX_ENTRIES c.args.request.now c.args.self.now c.judge.new.self c.append_judged.new.self c.judge.ensures.reads c.in-Append.entry c.in-Append.reply
    (λ honest log shows. replies _ (min MAX_ENTRIES MAX_ENTRIES) MAX_ENTRIES _ log c.args.request.now _ c.in-Append.entry c.in-Append.batch c.in-Append.reply (omega arith) c.in-Append.is (c.in_ok-answer.ensures.judged honest log shows))
    c.in-Err-Device.field-0 c.refuse.result (is_not_served c.refuse.result c.refuse.ensures) c.in-Err-Device.ensures.writes
