use Rattle.cs_pending.proofs.Staged.{found_before, found_here}
use Rattle.cs_pending.proofs.placing.edited_at.Goals.{then-is_of, else-is_of}
use Rattle.cs_pending.proofs.placing.edited_at.Goals as goal

pub loop-at-preserved : goal.loop-at-preserved
loop-at-preserved c =
    let edits = c.args.edits.now in
    let at = c.loop-at.at in
    let number = c.args.place.now.number in
    let key = c.args.place.now.key.now in
    elim c.if-is_of.branch [
      | then-is_of w ↦ rw w.found-is (found_here edits at number key c.loop-at.found c.get-edit.result c.get-edit.ensures c.loop-at.invariant w.body.result w.body.ensures (c.is_of.ensures.0 w.if-is_of.true))
      | else-is_of w ↦ rw w.found-is (found_before edits at number key c.loop-at.found c.get-edit.result c.get-edit.ensures c.loop-at.invariant
          (λ of. let no = c.is_of.ensures.1 of in let is = w.if-is_of.false in absurd cc))
    ]
