use Rattle.std.proofs.Common.{arith, sym, ◌∙◌}
use Rattle.cs_tools.proofs.FileLemmas.{lent_more}
use Rattle.cs_tools.proofs.combine.lend_all.Goals as goal

pub loop-one-preserved : goal.loop-one-preserved
loop-one-preserved c =
    rw c.in_ok-push.ensures.items (lent_more c.args.owned.now c.loop-one.one-index c.one-item.result c.loop-one.changesets.items c.in_ok-lend.field-0 (omega (arith, c.loop-one-test.true)) c.loop-one.invariant (c.in_ok-lend.ensures.0, sym c.one-item.is ∙ c.in_ok-lend.ensures.1))
