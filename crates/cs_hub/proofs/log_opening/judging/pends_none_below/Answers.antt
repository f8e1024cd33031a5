use Rattle.std.proofs.Common.{refl}
use Rattle.cs_pending.specs.Storing.{then_well, went_well}
use Rattle.cs_hub.proofs.LogOpeningLemmas.Listed.{one_more}
use Rattle.cs_hub.proofs.log_opening.judging.pends_none_below.Goals as goal

pub loop-number-preserved : goal.loop-number-preserved
loop-number-preserved g c = record {
  read = then_well g.S.RowStore (Unit {0}) (Unit {0}) (Unit {0}) c.args.store.now c.loop-number.store c.pends_none.new.store (λ t. t) (λ honest t. t)
      c.loop-number.invariant.read
      (went_well g.S.RowStore _ _ _ _ _ c.in-Ok-true.ensures.reads);
  told = λ honest.
      let was = c.in-Ok-true.ensures.reads.was_honest honest in
      let here = (rw c.in-Ok-true.field-0-test at c.in-Ok-true.ensures.told) honest in
      one_more (g.S.RowStore.contents c.args.store.now) (g.S.RowStore.contents c.loop-number.store) (c.loop-number.invariant.read.same was) c.loop-number.number (c.loop-number.invariant.told was) (here.0 refl);
}
