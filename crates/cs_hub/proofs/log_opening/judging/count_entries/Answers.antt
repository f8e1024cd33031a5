use Rattle.std.proofs.Common.{refl}
use Rattle.cs_hub.proofs.LogOpeningLemmas.Counted.{all_counted, some_pends}
use Rattle.cs_hub.proofs.log_opening.judging.count_entries.Goals as goal

pub returns-in-Ok-false-pends_none_below-clause-told : goal.returns-in-Ok-false-pends_none_below-clause-told
returns-in-Ok-false-pends_none_below-clause-told g c = λ honest of.
    let pended = c.in-Ok-false-pends_none_below.ensures.reads.was_honest honest in
    let checked = c.in-Ok-true-check.ensures.reads.was_honest pended in
    let told = (rw c.in-Ok-false-pends_none_below.field-0-test at c.in-Ok-false-pends_none_below.ensures.told) honest in
    let walked = g.S.RowStore.contents c.check.new.self in
    some_pends c.args.catalog.now (g.S.RowStore.contents c.args.store.now) (g.S.RowStore.contents c.have_none.new.store) walked walked walked
    (c.in-Ok-true.ensures.reads.same checked) (c.in-Ok-true-check.ensures.reads.same pended) refl refl c.tables-tables.result.now c.tables-tables.ensures.same _ refl
    (λ all. let no = told.1 all in (let f = no in cc))

pub returns-in-Ok-true-log_is_whole-clause-told : goal.returns-in-Ok-true-log_is_whole-clause-told
returns-in-Ok-true-log_is_whole-clause-told g c = λ honest of.
    let counted = c.in-Ok-true-log_is_whole.ensures.reads.was_honest honest in
    let pended = c.in-Ok.ensures.reads.was_honest counted in
    let checked = c.in-Ok-true-pends_none_below.ensures.reads.was_honest pended in
    let lacked = c.in-Ok-true-check.ensures.reads.was_honest checked in
    all_counted c.args.catalog.now (g.S.RowStore.contents c.args.store.now) (g.S.RowStore.contents c.have_none.new.store) (g.S.RowStore.contents c.check.new.self) (g.S.RowStore.contents c.pends_none_below.new.store) (g.S.RowStore.contents c.log_len.new.self)
    (c.in-Ok-true.ensures.reads.same lacked) (c.in-Ok-true-check.ensures.reads.same checked) (c.in-Ok-true-pends_none_below.ensures.reads.same pended) (c.in-Ok.ensures.reads.same counted)
    c.tables-tables.result.now c.tables-tables.ensures.same _ refl c.in-Ok.count (c.in-Ok.ensures.counted counted) of
    (((rw c.in-Ok-true.field-0-test at c.in-Ok-true.ensures.found) lacked).0 refl)
    (((rw c.in-Ok-true-check.field-0-test at c.in-Ok-true-check.ensures.checked) checked).0 refl)
    (((rw c.in-Ok-true-pends_none_below.field-0-test at c.in-Ok-true-pends_none_below.ensures.told) pended).0 refl)
    (((rw c.in-Ok-true-log_is_whole.field-0-test at c.in-Ok-true-log_is_whole.ensures.told) honest).0 refl)
