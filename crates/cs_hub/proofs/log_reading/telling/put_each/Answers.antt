use Rattle.std.proofs.Common.{◌∙◌, arith, refl, sym}
use Rattle.cs_hub.proofs.LogReadingLemmas.Found.{put_all, put_more, told_at}
use Rattle.cs_hub.proofs.log_reading.telling.put_each.Goals as goal

pub returns-then-not-branch : goal.returns-then-not-branch
returns-then-not-branch c = λ tolds are.
    let at = told_at c.args.stored.now tolds c.loop-entry.entry-index c.entry-item.result (omega (arith, c.loop-entry-test.true)) c.entry-item.is are in
    absurd (let no = sym (c.in_ok-put_stored.ensures at.0 at.1).0 ∙ c.if-not-branch.true in cc)

pub loop-entry-preserved : goal.loop-entry-preserved
loop-entry-preserved c = λ tolds are.
    let at = told_at c.args.stored.now tolds c.loop-entry.entry-index c.entry-item.result (omega (arith, c.loop-entry-test.true)) c.entry-item.is are in
    put_more c.loop-entry.entry-index tolds at.0 c.args.out.now.items c.loop-entry.out.items c.put_stored.new.out.items at.2 (c.loop-entry.invariant tolds are) (c.in_ok-put_stored.ensures at.0 at.1).1

pub returns : goal.returns
returns c = λ tolds are.
    (refl, put_all c.loop-entry.entry-index c.args.stored.now tolds c.args.out.now.items c.loop-entry.out.items (omega (arith, c.loop-entry-test.false, c.loop-entry.auto.entry-index-end)) are (c.loop-entry.invariant tolds are))
