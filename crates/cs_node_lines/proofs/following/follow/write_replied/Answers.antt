use Rattle.std.proofs.Common.{[], refl}
use Rattle.std.specs.Prelude.{codes}
use Rattle.std.proofs.KnownBytes.{Appends-kept, Appends-trans}
use Rattle.cs_node_lines.specs.working.Replies.{reply_text}
use Rattle.cs_node_lines.proofs.WorkingLemmas.Printing.{front_behind, front_of_all, front_of_first, on_err}
use Rattle.cs_node_lines.proofs.following.follow.write_replied.Goals as goal

pub returns-in_err-put_text-clause-front : goal.returns-in_err-put_text-clause-front
returns-in_err-put_text-clause-front g c =
    on_err _ (front_of_first _ _ _ (reply_text c.args.reply.now) (codes "\n") refl c.in_err-put_text.ensures.front)

pub returns-in_err-put-clause-front : goal.returns-in_err-put-clause-front
returns-in_err-put-clause-front g c =
    on_err _ (front_behind _ _ _ _ (reply_text c.args.reply.now) (codes "\n") [] refl c.in_ok-put_text.ensures.written c.in_err-put.ensures.front)

pub returns-clause-front : goal.returns-clause-front
returns-clause-front g c =
    on_err _ (front_of_all _ _ _ (Appends-kept _ _ _ _ (Appends-trans _ _ _ (reply_text c.args.reply.now) (codes "\n") c.in_ok-put_text.ensures.written c.in_ok-put.ensures.written) c.send.ensures.kept))
