use Rattle.std.proofs.Common.{refl}
use Rattle.cs_opening.proofs.CopyingLemmas.Whole.{all_copied}
use Rattle.cs_opening.proofs.copying.copying.copy_of.Goals as goal

pub returns-in-Ok-true-copy_tables-clause-copied : goal.returns-in-Ok-true-copy_tables-clause-copied
returns-in-Ok-true-copy_tables-clause-copied g c = λ honest.
    let valued = c.in-Ok-true-copy_tables.ensures.reads.was_honest honest in
    let checked = c.in-Ok.ensures.reads.was_honest valued in
    let told = (rw c.in-Ok-true.field-0-test at c.in-Ok-true.ensures.told) checked in
    all_copied c.args.catalog.now (g.S.RowStore.contents c.args.store.now) (g.S.RowStore.contents c.has_no_log.new.store) (g.S.RowStore.contents c.copy_values.new.store) c.in-Ok.copy.held c.copy_tables.new.copy.held
    (c.in-Ok-true.ensures.reads.same checked) (c.in-Ok.ensures.reads.same valued) (told.0 refl) (c.in-Ok.ensures.copied valued)
    c.tables-tables.result.now c.tables-tables.ensures.same ((rw c.in-Ok-true-copy_tables.field-0-test at c.in-Ok-true-copy_tables.ensures.told) honest)
