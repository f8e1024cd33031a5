use Rattle.std.proofs.Common.{List, subst, sym}
use Rattle.std.specs.List.{AllByRecursion}
use Rattle.cs_normal.specs.declared.normal.TableChanges.{TableChanges}
use Rattle.cs_apply.specs.NormalTasks.{IsOfOne, of_one}
use Rattle.cs_apply.proofs.placement.placed.place_all.Goals as goal

pub put_tables-requires : goal.put_tables-requires
put_tables-requires c =
    subst (λ (cs : List TableChanges). AllByRecursion (IsOfOne c.args.catalog.now) cs) (sym c.tables.ensures.same) (of_one c.args.catalog.now c.args.changes.now c.requires)
