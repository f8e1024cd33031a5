use Rattle.std.proofs.Common.{ap, ◌∙◌, arith}
use Rattle.std.specs.FinMap.{get, insert}
use Rattle.cs_store.specs.Contents.{Contents, Meta, name_text}
use Rattle.cs_sql.proofs.StatementsLemmas.Chains.{meta_removed, meta_set_anew}
use Rattle.cs_sql.specs.statements.Tables.{contents_in}
use Rattle.cs_sql.proofs.statements.writing.write_value.Goals as goal

pub insert_meta-requires-clause-absent : goal.insert_meta-requires-clause-absent
insert_meta-requires-clause-absent g c clean opened =
    let step = rw c.text.ensures at ((c.in_ok-remove_meta.ensures.ok clean).contents opened) in
    rw c.text-in-Some.ensures (ap (λ (k : Contents). get k.meta (name_text c.args.edit.now.name)) step ∙ meta_removed _ (name_text c.args.edit.now.name))

pub returns-in_ok-insert_meta-clause-ok : goal.returns-in_ok-insert_meta-clause-ok
returns-in_ok-insert_meta-clause-ok g c clean =
    let name = name_text c.args.edit.now.name in
    let was = contents_in (g.S.Store.view c.args.tx.now.conn.now.store).trees in
    let last = c.in_ok-insert_meta.ensures.ok clean in
    let first = c.in_ok-remove_meta.ensures.ok (omega (arith, c.insert_meta.ensures.survives.clean)) in
    record {
      inside = last.inside;
      kept = record { was_open = λ o. first.kept.was_open (last.kept.was_open o); committed = λ o. last.kept.committed o ∙ first.kept.committed (last.kept.was_open o) };
      stays = λ o. last.stays (first.stays o);
      contents = λ opened.
          let one = rw c.text.ensures at (first.contents (last.kept.was_open opened)) in
          let two = rw (c.text-in-Some.ensures, c.deref.ensures.value) at (last.contents opened) in
          let both = two ∙ ap (λ (k : Contents). record k { meta = insert k.meta name c.in-Some.value.items }) one ∙ ap (λ (m : Meta). record was { meta = m }) (meta_set_anew was.meta name c.in-Some.value.items) in
          rw c.in-Some.is both;
    }
