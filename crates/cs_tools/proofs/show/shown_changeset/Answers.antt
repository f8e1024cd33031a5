use Rattle.std.proofs.lemmas.Result.{IfErr-weaker, IfOk-weaker}
use Rattle.cs_change.specs.Spelling.{FitsChangeset, changeset_spelling}
use Rattle.cs_changeset.specs.Reading.{IsChangesetFault}
use Rattle.cs_text.specs.Text.{changeset_text}
use Rattle.cs_tools.proofs.InputLemmas.{refuses_first, shows_first}
use Rattle.cs_tools.proofs.show.shown_changeset.Goals as goal

pub returns-clause-ok : goal.returns-clause-ok
returns-clause-ok g c =
    IfOk-weaker c.text_of_changeset.result _ _ (λ text shown. shows_first FitsChangeset changeset_spelling changeset_text (g.R.Read.remaining c.args.reader.now) (g.R.Read.remaining c.next_or_empty.new.reader) c.in_ok-bytes.bytes.items text.bytes.items c.in_ok-bytes.ensures.ok (rw c.as_slice.ensures.value at shown)) c.text_of_changeset.ensures.ok

pub returns-clause-err : goal.returns-clause-err
returns-clause-err g c =
    IfErr-weaker c.text_of_changeset.result _ _ (λ told bad. refuses_first IsChangesetFault (g.R.LineInput.failed c.next_or_empty.new.reader) (g.R.Read.remaining c.args.reader.now) (g.R.Read.remaining c.next_or_empty.new.reader) c.in_ok-bytes.bytes.items told c.in_ok-bytes.ensures.ok (rw c.as_slice.ensures.value at bad)) c.text_of_changeset.ensures.err
