use Rattle.std.proofs.Common.{arith, sym, ◌∙◌}
use Rattle.cs_normalising.specs.Steps.Lent.{ordered_entries}
use Rattle.cs_normalising.proofs.LentForms.{form_is_left, form_is_none, none_left, none_more, order_length}
use Rattle.cs_normalising.proofs.TableForms.{kept_none}
use Rattle.cs_normalising.proofs.lent_table.is_left.Goals as goal

pub loop-at-init : goal.loop-at-init
loop-at-init c = sym kept_none

pub returns-then-is_some : goal.returns-then-is_some
returns-then-is_some c =
    form_is_left (ordered_entries c.args.marks.now c.args.lent.now) c.loop-at.at c.in_ok-form_at.field-0 c.in_ok-form_at.ensures (sym c.is_some.ensures ∙ c.if-is_some.true)

pub loop-at-preserved : goal.loop-at-preserved
loop-at-preserved c =
    none_more (ordered_entries c.args.marks.now c.args.lent.now) c.loop-at.at (omega (arith, c.loop-at-test.true, c.len-at-end.ensures, order_length c.args.marks.now c.args.lent.now)) c.loop-at.invariant (sym c.in_ok-form_at.ensures ∙ form_is_none c.in_ok-form_at.field-0 (sym c.is_some.ensures ∙ c.if-is_some.false))

pub returns : goal.returns
returns c =
    none_left (ordered_entries c.args.marks.now c.args.lent.now) c.loop-at.at (omega (arith, c.loop-at-test.false, c.len-at-end.ensures, order_length c.args.marks.now c.args.lent.now)) c.loop-at.invariant
