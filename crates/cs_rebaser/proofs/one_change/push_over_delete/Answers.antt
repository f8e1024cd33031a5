use Rattle.std.proofs.Common.{sym, ◌∙◌}
use Rattle.cs_rebaser.proofs.OverForms.{form_over_replaced, nothing_more}
use Rattle.cs_rebaser.proofs.one_change.push_over_delete.Goals as goal

pub returns-then-is_some : goal.returns-then-is_some
returns-then-is_some c =
    let update = c.in-Update in
    let entry = c.args.entry.now in
    let left = form_over_replaced c.args.marks.now update.flag update.old_fields update.new_fields entry c.row_if_whole.result c.requires c.if-entry.true c.row_if_whole.ensures (sym c.is_some.ensures ∙ c.if-is_some.true) in
    nothing_more c.args.out.now _ (rw update.is left)
