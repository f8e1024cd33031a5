use Rattle.std.specs.Prelude.{Some}
use Rattle.cs_embed.proofs.Refused.{work_refusal}
use Rattle.cs_embed.proofs.Telling.{asks_told}
use Rattle.cs_embed.proofs.node.work_store.Goals as goal

pub returns-in-Ok-ended-clause-told : goal.returns-in-Ok-ended-clause-told
returns-in-Ok-ended-clause-told c =
    asks_told _ c.args.catalog.now c.args.id c.args.asks.now c.args.store c.work_on-ended.result.1 _ c.new-texts.result.items c.work_on-ended.new.writer.items c.work_on-ended.result.0 _ _ c.new-texts.ensures.items c.in-Ok-ended.is c.in-Ok.ensures.clean c.in-Ok.ensures.holds c.work_on-ended.ensures.ends

pub returns-in-Err-ended-clause-refused : goal.returns-in-Err-ended-clause-refused
returns-in-Err-ended-clause-refused c =
    rw c.from-in-Err-ended.ensures (
    work_refusal _ c.args.catalog.now c.args.id c.args.asks.now c.args.store c.work_on-ended.result.1 (Unit {0}) (Some c.new-texts.result.items) (Some c.work_on-ended.new.writer.items) c.work_on-ended.result.0 c.in-Err-ended.fault c.in-Err-ended.is c.work_on-ended.ensures.ends
    )
