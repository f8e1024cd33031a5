use Rattle.std.proofs.Common.{◌+◌, None, refl, subst, sym}
use Rattle.cs_store.specs.Contents.{Contents}
use Rattle.cs_store.specs.declared.batch.Batch.{Batch}
use Rattle.cs_opening.specs.copying.Steps.{AreCopied}
use Rattle.cs_opening.proofs.CopyingLemmas.Tables.{table_copied}
use Rattle.cs_opening.proofs.copying.copying.put_rows.Goals as goal

pub returns-in-Ok : goal.returns-in-Ok
returns-in-Ok c = λ contents listing settled copied.
    let batch : Batch = record { rows = c.in_ok-edits_of.field-0; pending = c.new.result; meta = c.new-2.result; log = None } in
    subst (λ (held : Contents). AreCopied contents held (c.args.number + 1)) (sym (c.in-Ok.ensures.commits.ok tt))
    (table_copied c.commits.ensures.rows c.commits.ensures.other_rows contents c.args.copy.now.held batch c.args.number c.args.listed.items
    (rw c.as_slice.ensures.value at c.in_ok-edits_of.ensures) c.new.ensures c.new-2.ensures.items refl listing settled copied)
