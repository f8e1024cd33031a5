use Rattle.std.proofs.Common.{◌<◌, ◌∙◌, length, refl, arith}
use Rattle.cs_apply.proofs.Giving.{given_more, kept_more}
use Rattle.cs_apply.proofs.numbers.put_numbers.Goals as goal

pub loop-number-init : goal.loop-number-init
loop-number-init c = (refl, λ number at less. absurd (omega (arith, less)), λ at outside. refl)

pub loop-number-preserved : goal.loop-number-preserved
loop-number-preserved c =
    let less : c.loop-number.number < length c.args.waiting.now = omega (arith, c.loop-number-test.true) in
    let put = rw c.group.ensures at c.put_at.ensures.put in
    let kept = rw c.group.ensures at c.put_at.ensures.kept in (
      c.put_at.ensures.length ∙ c.loop-number.invariant.0,
      given_more c.args.groups.now c.args.waiting.now c.loop-number.told c.put_at.new.told c.loop-number.number less put kept c.requires.apart c.loop-number.invariant.1,
      kept_more c.args.groups.now c.args.waiting.now c.loop-number.told c.put_at.new.told c.loop-number.number less put kept c.args.told.now c.loop-number.invariant.2,
    )

pub returns-clause-put : goal.returns-clause-put
returns-clause-put c = λ number at less inside. c.loop-number.invariant.1 number at (omega (arith, less, c.loop-number-test.false)) inside

pub returns-clause-kept : goal.returns-clause-kept
returns-clause-kept c = λ at outside.
    c.loop-number.invariant.2 at (λ number less. outside number (omega (arith, less, c.loop-number.auto.number-end)))
