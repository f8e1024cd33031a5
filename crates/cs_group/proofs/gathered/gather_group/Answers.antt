use Rattle.std.proofs.Common.{◌∙◌, sym}
use Rattle.cs_group.proofs.OneGroupMore.{gathered_more}
use Rattle.cs_group.proofs.gathered.gather_group.Goals as goal

pub returns : goal.returns
returns c = λ t groups number so_far.
    let keys = rw c.as_slice-changes.ensures at c.in_ok-push_keys.ensures.keys in
    let whole = rw c.as_slice-changes.ensures at c.in_ok-push_keys.ensures.whole in
    gathered_more c.args.marks.now groups number c.args.group.now c.args.gathered.now _ keys (sym whole ∙ c.if-not-branch.false) so_far
