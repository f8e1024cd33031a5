use Rattle.std.proofs.lemmas.Result.{IfErr-at_err}
use Rattle.cs_lines.specs.Lines.{hex_line}
use Rattle.cs_tools.proofs.EndingLemmas.{ends_otherwise, owed_ok}
use Rattle.cs_tools.proofs.InputLemmas.{rebases_lines}
use Rattle.cs_tools.proofs.rebase.rebase_lines.Goals as goal

pub returns-clause-ends : goal.returns-clause-ends
returns-clause-ends g c =
    let came = c.rebased_bytes-bytes in
    ends_otherwise _ _ _ _ _ _ _ _ (owed_ok came.result (λ bytes. hex_line bytes.items) _ (rebases_lines _ _ _ _ came.ensures.ok)) (λ told err. IfErr-at_err _ err came.ensures.err) c.end_with_line.ensures.ends
