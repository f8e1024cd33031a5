use Rattle.std.proofs.Common.{sym, ap, ◌++◌, ◌∙◌, arith}
use Rattle.cs_order.specs.Order.{Keys}
use Rattle.cs_normal.proofs.KeyedLemmas.KeyFronts.{set_alike, key_alike}
use Rattle.cs_normal.proofs.KeyedLemmas.Gathered.{gathered_more, gathered_stopped, gathered_whole}
use Rattle.cs_normal.proofs.keyed.gathering.push_keys.Goals as goal

pub returns-then-not-branch-clause-keys : goal.returns-then-not-branch-clause-keys
returns-then-not-branch-clause-keys c =
    (gathered_stopped c.args.marks.now c.args.changes.now c.loop-at.at c.index-changes-at.result c.args.keys.now _ _ c.loop-at-test.true c.index-changes-at.is (sym (set_alike _ _ c.index-changes-at.result c.key_front-front.ensures) ∙ sym c.in_ok-push_of.ensures.whole ∙ c.if-not-branch.true) (c.in_ok-push_of.ensures.ok ∙ ap (λ (ks : Keys). c.loop-at.keys ++ ks) (key_alike _ _ c.index-changes-at.result c.key_front-front.ensures)) (c.loop-at.invariant.keys, c.loop-at.invariant.whole)).0

pub returns-then-not-branch-clause-whole : goal.returns-then-not-branch-clause-whole
returns-then-not-branch-clause-whole c =
    (gathered_stopped c.args.marks.now c.args.changes.now c.loop-at.at c.index-changes-at.result c.args.keys.now _ _ c.loop-at-test.true c.index-changes-at.is (sym (set_alike _ _ c.index-changes-at.result c.key_front-front.ensures) ∙ sym c.in_ok-push_of.ensures.whole ∙ c.if-not-branch.true) (c.in_ok-push_of.ensures.ok ∙ ap (λ (ks : Keys). c.loop-at.keys ++ ks) (key_alike _ _ c.index-changes-at.result c.key_front-front.ensures)) (c.loop-at.invariant.keys, c.loop-at.invariant.whole)).1

pub loop-at-preserved : goal.loop-at-preserved
loop-at-preserved c =
    let more = gathered_more c.args.marks.now c.args.changes.now c.loop-at.at c.index-changes-at.result c.args.keys.now _ _ c.loop-at-test.true c.index-changes-at.is (sym (set_alike _ _ c.index-changes-at.result c.key_front-front.ensures) ∙ sym c.in_ok-push_of.ensures.whole ∙ c.if-not-branch.false) (c.in_ok-push_of.ensures.ok ∙ ap (λ (ks : Keys). c.loop-at.keys ++ ks) (key_alike _ _ c.index-changes-at.result c.key_front-front.ensures)) (c.loop-at.invariant.keys, c.loop-at.invariant.whole) in
    record {
      within = omega (arith, c.loop-at-test.true);
      keys = more.0;
      whole = more.1;
    }

pub returns-clause-keys : goal.returns-clause-keys
returns-clause-keys c =
    (gathered_whole c.args.marks.now c.args.changes.now c.loop-at.at c.args.keys.now c.loop-at.keys (omega (arith, c.loop-at-test.false)) (c.loop-at.invariant.keys, c.loop-at.invariant.whole)).0

pub returns-clause-whole : goal.returns-clause-whole
returns-clause-whole c =
    (gathered_whole c.args.marks.now c.args.changes.now c.loop-at.at c.args.keys.now c.loop-at.keys (omega (arith, c.loop-at-test.false)) (c.loop-at.invariant.keys, c.loop-at.invariant.whole)).1
