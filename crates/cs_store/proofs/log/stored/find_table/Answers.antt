use Rattle.std.proofs.Common.{List, [], ◌∷◌, ◌++◌, ap, sym, ◌∙◌, append_assoc}
use Rattle.cs_value.specs.declared.catalog.TableDef.{TableDef}
use Rattle.cs_store.proofs.log.stored.find_table.Goals as goal

pub loop-table-preserved : goal.loop-table-preserved
loop-table-preserved c =
    let before = c.loop-table.invariant.0 in
    let table = c.in-Some.table.now in
    (before ++ table ∷ [], c.loop-table.invariant.1 ∙ ap (λ (ts : List TableDef). before ++ ts) c.in-Some.ensures.cases.0 ∙ sym (append_assoc before (table ∷ []) c.in-Some.more.now))
