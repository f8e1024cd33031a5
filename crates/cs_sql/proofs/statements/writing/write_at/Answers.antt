use Rattle.std.proofs.Common.{◌≡◌, pos, Some, option_map, ap, sym, ◌∙◌, arith}
use Rattle.std.specs.FinMap.{get}
use Rattle.cs_store.specs.Contents.{Contents}
use Rattle.cs_sql.proofs.StatementsLemmas.Chains.{removed_at, set_at_anew}
use Rattle.cs_sql.specs.statements.Tables.{contents_in}
use Rattle.cs_sql.specs.statements.Steps.{placed, with_at}
use Rattle.cs_sql.proofs.statements.writing.write_at.Goals as goal

pub insert_at-requires-clause-absent : goal.insert_at-requires-clause-absent
insert_at-requires-clause-absent g c clean opened =
    let table = pos c.args.edit.now.table in
    let key = c.args.edit.now.key in
    let step = rw (c.table.ensures, c.key.ensures) at ((c.in_ok-remove_at.ensures.ok clean).contents opened) in
    rw (c.table-in-Some.ensures, c.key-in-Some.ensures) (ap (λ (k : Contents). get (placed c.args.space k) (table, key)) step ∙ removed_at c.args.space _ table key)

pub returns-in_ok-insert_at-clause-ok : goal.returns-in_ok-insert_at-clause-ok
returns-in_ok-insert_at-clause-ok g c clean =
    let table = pos c.args.edit.now.table in
    let key = c.args.edit.now.key in
    let was = contents_in (g.S.Store.view c.args.tx.now.conn.now.store).trees in
    let last = c.in_ok-insert_at.ensures.ok clean in
    let first = c.in_ok-remove_at.ensures.ok (omega (arith, c.insert_at.ensures.survives.clean)) in
    record {
      inside = last.inside;
      kept = record { was_open = λ o. first.kept.was_open (last.kept.was_open o); committed = λ o. last.kept.committed o ∙ first.kept.committed (last.kept.was_open o) };
      stays = λ o. last.stays (first.stays o);
      contents = λ opened.
          let one = rw (c.table.ensures, c.key.ensures) at (first.contents (last.kept.was_open opened)) in
          let two = rw (c.table-in-Some.ensures, c.key-in-Some.ensures) at (last.contents opened) in
          let both = two ∙ ap (with_at c.args.space table key c.in-Some.body.now) one ∙ set_at_anew c.args.space was table key c.in-Some.body.now in
          let set : c.args.edit.now.body ≡ Some c.in-Some.body.now = sym c.body.ensures ∙ ap (option_map (λ b. b.now)) c.in-Some.is in
          rw set both;
    }
