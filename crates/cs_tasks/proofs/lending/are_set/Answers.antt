use Rattle.std.proofs.Common.{inl, inr, sym, ◌∙◌}
use Rattle.cs_tasks.proofs.Groups.{none_left}
use Rattle.cs_tasks.proofs.LentKeys.{nothing_left, one_passed, one_set}
use Rattle.cs_tasks.proofs.lending.are_set.Goals as goal

pub loop-mark-preserved-in-Some-of_column : goal.loop-mark-preserved-in-Some-of_column
loop-mark-preserved-in-Some-of_column c =
    one_set c.loop-mark.marks.now c.in-Some.more_marks.now c.in-Some.mark.now c.loop-mark.rest c.in-Some-split_first.more c.in-Some-split_first.column c.in-Some-of_column.cell
    c.in-Some.ensures.cases.0 c.in-Some-split_first.ensures c.if-mark.true c.in-Some-of_column.ensures (sym c.if-is_set.ensures)
    ∙ c.loop-mark.invariant

pub loop-mark-preserved : goal.loop-mark-preserved
loop-mark-preserved c =
    one_passed c.loop-mark.marks.now c.in-Some.more_marks.now c.in-Some.mark.now c.loop-mark.rest c.in-Some-split_first.more c.in-Some-split_first.column
    c.in-Some.ensures.cases.0 c.in-Some-split_first.ensures c.if-mark.false
    ∙ c.loop-mark.invariant

pub returns-in_default-split_first : goal.returns-in_default-split_first
returns-in_default-split_first c = λ yes. sym c.loop-mark.invariant ∙ nothing_left c.loop-mark.marks.now c.loop-mark.rest (inr c.in_default-split_first.ensures)

pub returns-in_default : goal.returns-in_default
returns-in_default c = λ yes. sym c.loop-mark.invariant ∙ nothing_left c.loop-mark.marks.now c.loop-mark.rest (inl (none_left c.loop-mark.marks.now c.in_default.ensures.cases))
