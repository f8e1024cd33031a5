use Rattle.std.proofs.Common.{sym, ◌∙◌, arith}
use Rattle.cs_map_store.proofs.Ordered.{all_rise, few_rise}
use Rattle.cs_map_store.proofs.leaves.rise.Goals as goal

pub returns-then-len-le1-clause-yes : goal.returns-then-len-le1-clause-yes
returns-then-len-le1-clause-yes c = λ _. few_rise c.args.edits.now (omega (arith, c.if-len-le1.true, c.len.ensures))

pub returns-else-len-le1-clause-yes : goal.returns-else-len-le1-clause-yes
returns-else-len-le1-clause-yes c = λ yes. all_rise c.args.edits.now c.edits_before.result c.edits_before.ensures.behind c.edits_before.ensures.rise (sym c.is_some.ensures ∙ yes)
