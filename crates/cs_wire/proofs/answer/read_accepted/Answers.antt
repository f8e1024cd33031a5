use Rattle.std.proofs.Common.{◌<◌, length, inl, arith, ap, rules}
use Rattle.std.proofs.lemmas.Bool.Decides.{nat_tests}
use Rattle.cs_wire.specs.Answers.{accepted_tag}
use Rattle.cs_wire.specs.declared.short_answer.ShortAnswer.TheVariants.{Accepted}
use Rattle.std.specs.Prelude.{◌∷◌, List, ℕ}
use Rattle.cs_wire.proofs.answer.read_accepted.Goals as goal

pub returns-then-not-is_empty : goal.returns-then-not-is_empty
returns-then-not-is_empty c =
    let some : 0 < length c.in-Some.more.now = grind (arith, nat_tests, c.if-not-is_empty.true, c.is_empty.ensures) in
    inl (inl (Accepted c.in-Some.origin c.in-Some.number c.in-Some.version, c.in-Some.more.now, search rules, ap (λ (t : List ℕ). accepted_tag ∷ t) c.in-Some.ensures, some))
