use Rattle.std.proofs.Common.{subst, arith}
use Rattle.std.proofs.lemmas.List.{take_all}
use Rattle.std.proofs.lemmas.List.Elements.{All-more}
use Rattle.cs_normal.specs.keyed.Prepared.{IsForm}
use Rattle.cs_normal.proofs.keyed.one_form.all_normal.Goals as goal

pub loop-change-preserved : goal.loop-change-preserved
loop-change-preserved c =
    let here = c.is_normal.ensures c.if-not-is_normal.false in
    All-more (IsForm c.args.marks.now) c.args.changes.now c.loop-change.change-index c.change-item.result c.loop-change-test.true c.loop-change.invariant (subst (IsForm c.args.marks.now) c.change-item.is here)

pub returns : goal.returns
returns c =
    let whole = take_all c.loop-change.change-index c.args.changes.now (omega (arith, c.loop-change-test.false)) in
    λ t. rw whole at c.loop-change.invariant
