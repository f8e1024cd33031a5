use Rattle.cs_normal.proofs.KeyedLemmas.Lent.{one_passed}
use Rattle.cs_normal.proofs.keyed.lending.lend_record_key.Goals as goal

pub loop-mark-preserved : goal.loop-mark-preserved
loop-mark-preserved c =
    one_passed c.args.marks.now c.args.fields.now c.loop-mark.marks.now c.loop-mark.rest c.in-Some.mark.now c.in-Some.more_marks.now c.in-Some-split_first.column _ c.in-Some-split_first.more c.in-Some.ensures.cases.0 c.in-Some-split_first.ensures c.if-not-mark.false c.in-Some-of_column.ensures c.loop-mark.invariant
