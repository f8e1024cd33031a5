use Rattle.std.proofs.Common.{◌∙◌, ap, arith, sym}
use Rattle.std.specs.Prelude.{not}
use Rattle.std.proofs.lemmas.Grind.{common_steps}
use Rattle.cs_rebaser.proofs.OverForms.{none_over, nothing_more, some_over}
use Rattle.cs_rebaser.proofs.one_change.push_update_over.Goals as goal

pub returns-then-not-left : goal.returns-then-not-left
returns-then-not-left c =
    let entry = c.args.entry.now in
    nothing_more c.args.out.now _ (none_over c.args.marks.now c.args.flag c.args.old.now c.args.new.now entry c.requires (sym c.in_ok-left.ensures.left ∙ ap not c.if-not-left.true))

pub returns : goal.returns
returns c =
    let entry = c.args.entry.now in
    let some = some_over c.args.marks.now c.args.flag c.args.old.now c.args.new.now entry c.requires (sym c.in_ok-left.ensures.left ∙ ap not c.if-not-left.false) in
    grind (arith, common_steps, some)
