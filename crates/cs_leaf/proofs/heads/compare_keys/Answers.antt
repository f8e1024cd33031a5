use Rattle.std.proofs.Common.{sym, ◌∙◌, arith}
use Rattle.cs_leaf.proofs.Fronts.{heads_decide, lengths_decide}
use Rattle.cs_leaf.proofs.heads.compare_keys.Goals as goal

pub returns-in_default : goal.returns-in_default
returns-in_default c =
    let it = c.cmp.ensures in
    it ∙ heads_decide c.args.key.now c.args.other.now c.args.head c.args.other_head c.requires.key c.requires.other (λ e. c.in_default.not-Equal (it ∙ e))

pub returns-in-Equal : goal.returns-in-Equal
returns-in-Equal c =
    c.cmp-in-Equal.ensures ∙ lengths_decide c.args.key.now c.args.other.now c.args.head c.args.other_head c.requires.key c.requires.other (sym c.cmp.ensures ∙ c.in-Equal.is) (omega arith) (omega arith)
