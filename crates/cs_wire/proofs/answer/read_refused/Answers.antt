use Rattle.std.proofs.Common.{◌<◌, ◌∷◌, List, ℕ, length, inl, arith, ap}
use Rattle.std.proofs.lemmas.Bool.Decides.{nat_tests}
use Rattle.cs_wire.specs.Answers.{refused_tag}
use Rattle.cs_wire.specs.declared.short_answer.ShortAnswer.TheVariants.{Refused}
use Rattle.cs_wire.proofs.answer.read_refused.Goals as goal

pub returns-then-not-is_empty : goal.returns-then-not-is_empty
returns-then-not-is_empty c =
    let is = c.in-Some.ensures.cases.0 in
    let some : 0 < length c.in-Some.more.now = grind (arith, nat_tests, c.if-not-is_empty.true, c.is_empty.ensures) in
    let fits : c.in-Some.code.now < 256 = omega (arith, (rw is at c.type_inv.rest 0)) in
    inl (inl (Refused c.in-Some.code.now, c.in-Some.more.now, fits, ap (λ (t : List ℕ). refused_tag ∷ t) is, some))
