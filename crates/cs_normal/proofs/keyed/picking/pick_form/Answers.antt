use Rattle.std.proofs.Common.{arith}
use Rattle.cs_normal.proofs.KeyedLemmas.Beside.{pushed, not_pushed}
use Rattle.cs_normal.proofs.keyed.picking.pick_form.Goals as goal

pub returns-in_ok-push-clause-pushed : goal.returns-in_ok-push-clause-pushed
returns-in_ok-push-clause-pushed c =
    (pushed c.args.keys.now.1 c.push.new.self.1 c.args.changes.now c.push_form.new.out _ _ c.requires c.in_ok-push_form.ensures (omega (arith, c.if-len-before.true, c.len.ensures, c.len-before.ensures)) c.in_ok-push.ensures.ok).1

pub returns-else-len-before-clause-pushed : goal.returns-else-len-before-clause-pushed
returns-else-len-before-clause-pushed c =
    (not_pushed c.args.keys.now.1 c.args.changes.now c.push_form.new.out _ _ c.requires c.in_ok-push_form.ensures (omega (arith, c.if-len-before.false, c.len.ensures, c.len-before.ensures))).1
