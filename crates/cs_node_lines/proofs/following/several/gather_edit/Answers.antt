use Rattle.cs_node_lines.proofs.FollowingLemmas.Gathering.{edits_push, edits_stop}
use Rattle.cs_node_lines.proofs.following.several.gather_edit.Goals as goal

pub returns-in-Ok : goal.returns-in-Ok
returns-in-Ok c = λ lines is.
    rw c.in-Ok.ensures.items
    (edits_push c.args.catalog.now lines c.args.line.now c.args.edits.items c.in-Ok-Some.edit is (rw c.in-Ok-Some.field-0-is at c.in-Ok-Some.ensures))

pub returns-in-Ok-None : goal.returns-in-Ok-None
returns-in-Ok-None c = λ lines is. edits_stop c.args.catalog.now lines c.args.line.now (rw c.in-Ok-None.field-0-is at c.in-Ok-None.ensures)
