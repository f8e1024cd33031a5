use Rattle.std.proofs.lemmas.Result.{IfErr-weaker, IfOk-weaker}
use Rattle.cs_blob.specs.Reading.{IsBlobFault}
use Rattle.cs_blob.specs.Spelling.{FitsBlob, blob_spelling}
use Rattle.cs_text.specs.Text.{blob_text}
use Rattle.cs_tools.proofs.InputLemmas.{refuses_first, shows_first}
use Rattle.cs_tools.proofs.show.shown_blob.Goals as goal

pub returns-clause-ok : goal.returns-clause-ok
returns-clause-ok g c =
    IfOk-weaker c.text_of_blob.result _ _ (λ text shown. shows_first FitsBlob blob_spelling blob_text (g.R.Read.remaining c.args.reader.now) (g.R.Read.remaining c.next_or_empty.new.reader) c.in_ok-bytes.bytes.items text.bytes.items c.in_ok-bytes.ensures.ok (rw c.as_slice.ensures.value at shown)) c.text_of_blob.ensures.ok

pub returns-clause-err : goal.returns-clause-err
returns-clause-err g c =
    IfErr-weaker c.text_of_blob.result _ _ (λ told bad. refuses_first IsBlobFault (g.R.LineInput.failed c.next_or_empty.new.reader) (g.R.Read.remaining c.args.reader.now) (g.R.Read.remaining c.next_or_empty.new.reader) c.in_ok-bytes.bytes.items told c.in_ok-bytes.ensures.ok (rw c.as_slice.ensures.value at bad)) c.text_of_blob.ensures.err
