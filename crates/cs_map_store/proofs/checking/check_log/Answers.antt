use Rattle.std.proofs.Common.{arith}
use Rattle.cs_map_store.specs.Packed.{no_item}
use Rattle.cs_map_store.proofs.Checks.{one_less, one_more}
use Rattle.cs_map_store.proofs.checking.check_log.Goals as goal

pub returns-then-not-good : goal.returns-then-not-good
returns-then-not-good c =
    one_less c.decoding.ensures.refused c.args.catalog.now c.loop-at.present c.judge_body.new.self c.args.log.now.items c.loop-at.at no_item c.body.result.now c.in_ok-good.good c.tables.ensures.tables (omega arith) c.body.ensures
    c.if-not-good.true c.loop-at.invariant c.in_ok-good.ensures.judged

pub loop-at-preserved : goal.loop-at-preserved
loop-at-preserved c =
    one_more c.decoding.ensures.on c.args.catalog.now c.loop-at.present c.judge_body.new.self c.args.log.now.items c.loop-at.at no_item c.body.result.now c.in_ok-good.good (omega arith) c.body.ensures
    c.if-not-good.false c.loop-at.invariant c.in_ok-good.ensures.judged
