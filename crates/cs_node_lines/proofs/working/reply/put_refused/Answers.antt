use Rattle.std.proofs.Common.{◌++◌, append_assoc, refl}
use Rattle.std.specs.Prelude.{codes}
use Rattle.std.proofs.KnownBytes.{Appends-trans}
use Rattle.cs_node_lines.proofs.WorkingLemmas.Printing.{front_behind, front_last, front_of_first, on_err}
use Rattle.cs_node_lines.proofs.working.reply.put_refused.Goals as goal

pub returns-in_err-put-clause-front : goal.returns-in_err-put-clause-front
returns-in_err-put-clause-front g c =
    on_err _ (front_of_first _ _ _ (codes "refused ") (c.args.name.now ++ codes "\n") (append_assoc (codes "refused ") c.args.name.now (codes "\n")) c.in_err-put.ensures.front)

pub returns-in_err-put-2-clause-front : goal.returns-in_err-put-2-clause-front
returns-in_err-put-2-clause-front g c =
    let now = rw c.as_bytes.ensures.value at c.in_err-put-2.ensures.front in
    on_err _ (front_behind _ _ _ _ (codes "refused ") c.args.name.now (codes "\n") (append_assoc (codes "refused ") c.args.name.now (codes "\n")) c.in_ok-put.ensures.written now)

pub returns-clause-front : goal.returns-clause-front
returns-clause-front g c =
    let name = rw c.as_bytes.ensures.value at c.in_ok-put-2.ensures.written in
    front_last _ _ _ _ _ (codes "refused " ++ c.args.name.now) (codes "\n") refl
    (Appends-trans _ _ _ (codes "refused ") c.args.name.now c.in_ok-put.ensures.written name) c.put-3.ensures.front
