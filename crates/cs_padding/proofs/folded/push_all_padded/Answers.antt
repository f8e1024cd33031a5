use Rattle.cs_change.specs.Spelling.{marks_of}
use Rattle.cs_padding.proofs.Behind.{padded_more}
use Rattle.cs_padding.proofs.folded.push_all_padded.Goals as goal

pub loop-at-preserved : goal.loop-at-preserved
loop-at-preserved c =
    let pushed = c.in_ok-push_padded.ensures in
    padded_more (marks_of c.args.marks.now) c.args.columns.now.nulls.items c.args.columns.now.undefined.items c.args.number c.args.edits.now c.loop-at.at c.get-edit.result pushed.0
    c.args.out.now c.loop-at.out c.push_padded.new.out c.get-edit.ensures pushed.1 pushed.2 c.loop-at.invariant
