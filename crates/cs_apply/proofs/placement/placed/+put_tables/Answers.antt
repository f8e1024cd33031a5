use Rattle.std.proofs.Common.{List, map, subst}
use Rattle.std.specs.List.{AllByRecursion}
use Rattle.cs_normal.specs.declared.normal.TableChanges.{TableChanges}
use Rattle.cs_apply.specs.NormalTasks.{IsOfOne}
use Rattle.cs_apply.specs.placement.Places.{task_of}
use Rattle.cs_apply.proofs.PlacementLemmas.Put.{found_there, marks_are, none_put, number_is, table_put}
use Rattle.cs_apply.proofs.placement.placed.+put_tables.Goals as goal

pub returns-in_default-clause-tasks : goal.returns-in_default-clause-tasks
returns-in_default-clause-tasks t c = none_put c.args.catalog.now c.args.changes.now (map task_of c.args.out.now.items) c.in_default.ensures.cases

pub put_changes-requires-clause-marks : goal.put_changes-requires-clause-marks
put_changes-requires-clause-marks t c =
    let of = subst (λ (cs : List TableChanges). AllByRecursion (IsOfOne c.args.catalog.now) cs) c.in-Some.ensures.cases.0 c.requires in
    let found = found_there c.args.catalog.now c.tables-tables.result.now c.in-Some.first.now.name c.in-Some-find.number c.index-tables-number.result c.tables-tables.ensures.same c.in-Some-find.ensures.found.0 c.index-tables-number.is (rw c.as_str.ensures at c.in-Some-find.ensures.found.1) in
    marks_are c.catalogs.ensures.place c.args.catalog.now c.tables-tables.ensures.tables c.in-Some.first.now of.0 c.index-tables-number.result found.1 found.2

pub returns-in-Ok-put_tables-clause-tasks : goal.returns-in-Ok-put_tables-clause-tasks
returns-in-Ok-put_tables-clause-tasks t c =
    let of = subst (λ (cs : List TableChanges). AllByRecursion (IsOfOne c.args.catalog.now) cs) c.in-Some.ensures.cases.0 c.requires in
    let found = found_there c.args.catalog.now c.tables-tables.result.now c.in-Some.first.now.name c.in-Some-find.number c.index-tables-number.result c.tables-tables.ensures.same c.in-Some-find.ensures.found.0 c.index-tables-number.is (rw c.as_str.ensures at c.in-Some-find.ensures.found.1) in
    table_put c.args.catalog.now c.in-Some.first.now c.in-Some.others.now c.args.changes.now c.in-Some-find.number (map task_of c.args.out.now.items) _ _ c.in-Some.ensures.cases.0
    (number_is c.catalogs.ensures.place c.args.catalog.now c.tables-tables.ensures.tables c.in-Some.first.now of.0 c.in-Some-find.number c.index-tables-number.result found.0 found.2)
    c.in-Ok.ensures.tasks c.in-Ok-put_tables.ensures.tasks

pub returns-in-Ok-put_tables-clause-placed : goal.returns-in-Ok-put_tables-clause-placed
returns-in-Ok-put_tables-clause-placed t c = λ old.
    let found = found_there c.args.catalog.now c.tables-tables.result.now c.in-Some.first.now.name c.in-Some-find.number c.index-tables-number.result c.tables-tables.ensures.same c.in-Some-find.ensures.found.0 c.index-tables-number.is (rw c.as_str.ensures at c.in-Some-find.ensures.found.1) in
    c.in-Ok-put_tables.ensures.placed (c.in-Ok.ensures.placed c.args.catalog.now found.0 old)
