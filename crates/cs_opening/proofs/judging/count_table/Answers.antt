use Rattle.std.proofs.Common.{ap, length, refl}
use Rattle.cs_opening.proofs.Walked.{none_counted, table_counted}
use Rattle.cs_opening.proofs.judging.count_table.Goals as goal

pub returns-in-Ok-true-clause-counted : goal.returns-in-Ok-true-clause-counted
returns-in-Ok-true-clause-counted g c = λ honest.
    let read = c.in-Ok-true.ensures.reads.was_honest honest in
    let told = (rw c.in-Ok-true.field-0-test at c.in-Ok-true.ensures.told) honest in
    table_counted (g.S.RowStore.contents c.args.store.now) (g.S.RowStore.contents c.pend_list.new.self) (c.in_ok-listed.ensures.reads.same read) c.args.number c.args.table.now c.in_ok-listed.listed.items c.as_slice-3.result.now c.as_slice-3.ensures.value
    (c.in_ok-listed.ensures.listed read) _ (ap length c.as_slice-in-Ok-true.ensures.value) (told.0 refl)

pub returns-in-Ok-false-clause-counted : goal.returns-in-Ok-false-clause-counted
returns-in-Ok-false-clause-counted g c = λ honest.
    let read = c.in-Ok-false.ensures.reads.was_honest honest in
    let told = (rw c.in-Ok-false.field-0-test at c.in-Ok-false.ensures.told) honest in
    none_counted (g.S.RowStore.contents c.args.store.now) (g.S.RowStore.contents c.pend_list.new.self) (c.in_ok-listed.ensures.reads.same read) c.args.number c.args.table.now c.in_ok-listed.listed.items c.as_slice-3.result.now c.as_slice-3.ensures.value
    (c.in_ok-listed.ensures.listed read) (λ all. let no = told.1 all in (let f = no in cc))
