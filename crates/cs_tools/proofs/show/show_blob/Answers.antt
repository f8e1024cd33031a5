use Rattle.std.proofs.lemmas.Result.{IfErr-at_err}
use Rattle.cs_tools.proofs.EndingLemmas.{ends_otherwise, owed_ok}
use Rattle.cs_tools.proofs.show.show_blob.Goals as goal

pub returns-clause-ends : goal.returns-clause-ends
returns-clause-ends g c =
    let came = c.shown_blob-text in
    ends_otherwise _ _ _ _ _ _ _ _ (owed_ok came.result (λ written. written.bytes.items) _ came.ensures.ok) (λ told err. IfErr-at_err _ err came.ensures.err) c.end_with_text.ensures.ends
