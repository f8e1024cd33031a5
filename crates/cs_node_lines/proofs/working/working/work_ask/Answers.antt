use Rattle.std.proofs.Common.{refl}
use Rattle.cs_node_lines.specs.declared.asks.ask.Ask.TheVariants as line
use Rattle.cs_node_lines.specs.working.LineStep.{LineStep}
use Rattle.cs_node_lines.specs.working.Replies.{reply_text}
use Rattle.cs_node_lines.proofs.WorkingLemmas.Made.{stepped_still}
use Rattle.cs_node_lines.proofs.working.working.work_ask.Goals as goal

pub returns-in-OnEdit : goal.returns-in-OnEdit
returns-in-OnEdit g c = rw c.in-OnEdit.is (reply_text c.edit_line.result, c.edit_line.ensures, refl)

pub returns-in-Push : goal.returns-in-Push
returns-in-Push g c = rw c.in-Push.is c.push_line.ensures

pub returns-in-Resend : goal.returns-in-Resend
returns-in-Resend g c =
    rw c.in-Resend.is (
      reply_text c.resend_line.result,
      stepped_still g.S.RowStore LineStep line.Resend (reply_text c.resend_line.result) c.args.replica.now c.resend_line.ensures,
      refl,
    )

pub returns-in-Answer : goal.returns-in-Answer
returns-in-Answer g c = rw c.in-Answer.is (rw (c.as_slice.ensures, c.as_slice-in-Answer.ensures) at c.answer_line.ensures)

pub returns-in-Pull : goal.returns-in-Pull
returns-in-Pull g c =
    rw c.in-Pull.is (
      reply_text c.pull_line.result,
      stepped_still g.S.RowStore LineStep (line.Pull c.in-Pull.limit) (reply_text c.pull_line.result) c.args.replica.now c.pull_line.ensures,
      refl,
    )

pub returns-in-Catch : goal.returns-in-Catch
returns-in-Catch g c =
    rw c.in-Catch.is (
      reply_text c.catch_line.result,
      stepped_still g.S.RowStore LineStep (line.Catch c.in-Catch.limit) (reply_text c.catch_line.result) c.args.replica.now c.catch_line.ensures,
      refl,
    )

pub returns-in-Dump : goal.returns-in-Dump
returns-in-Dump g c = rw c.in-Dump.is (reply_text c.dump_line.result, c.dump_line.ensures, refl)
