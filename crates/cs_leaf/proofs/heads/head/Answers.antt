use Rattle.std.proofs.Common.{arith, ap, ◌∙◌}
use Rattle.cs_order.specs.Heads.{head_of}
use Rattle.cs_leaf.proofs.Fronts.{two_words}
use Rattle.cs_leaf.proofs.heads.head.Goals as goal

pub returns : goal.returns
returns c =
    let low = c.head-2.ensures.value ∙ ap (head_of 8) c.rest_of.ensures in
    (omega (arith, two_words c.args.key.now, c.head.ensures.value, low), λ i. omega (arith, c.type_inv.key i))
