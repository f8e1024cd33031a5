use Rattle.std.proofs.Common.{refl}
use Rattle.cs_store.specs.declared.batch.MetaEdit.{MetaEdit}
use Rattle.cs_opening.proofs.CopyingLemmas.Values.{read_more}
use Rattle.cs_opening.proofs.copying.copying.+read_values.Goals as goal

pub returns-in-Ok-clause-read : goal.returns-in-Ok-clause-read
returns-in-Ok-clause-read g t c = λ honest.
    let edit : MetaEdit = record { name = c.in-Some.name.now; value = c.in_ok-value.value } in
    let was = c.in-Ok.ensures.reads.was_honest honest in
    read_more (g.S.RowStore.contents c.args.store.now) (g.S.RowStore.contents c.meta.new.self) (c.in_ok-value.ensures.reads.same was)
    c.args.names.now c.in-Some.others.now c.in-Some.name.now c.in-Some.ensures.cases.0
    edit c.args.edits.now.items c.push.new.self.items c.read_values.new.edits.items c.in_ok-push.ensures.items refl (c.in_ok-value.ensures.found was)
    (c.in-Ok.ensures.read honest)
