use Rattle.std.proofs.lemmas.List.Elements.{All-from_recursion}
use Rattle.std.proofs.lemmas.Result.{err_from_is_err_and}
use Rattle.cs_normal.specs.Normal.{FitsCatalog}
use Rattle.cs_group.proofs.Forms.{forms_fit, combined_of, unfit_told}
use Rattle.cs_group.proofs.combining.combine_one_by_one.Goals as goal

pub returns-in_err-normals-clause-fault : goal.returns-in_err-normals-clause-fault
returns-in_err-normals-clause-fault c =
    let given = err_from_is_err_and c.from_residual.result c.from_residual.ensures.1 in
    rw (given.1, given.2) (unfit_told c.in_err-normals.field-0.0 c.args.changesets.now c.args.catalog.now c.requires.tables c.requires.shapes c.tables-tables.ensures.tables c.in_err-normals.ensures.fault)

pub join-requires : goal.join-requires
join-requires c =
    rw c.deref.ensures.value (All-from_recursion (FitsCatalog c.args.catalog.now) c.in_ok-normals.normals.items (forms_fit c.args.catalog.now c.args.changesets.now c.in_ok-normals.normals.items c.in_ok-normals.ensures.forms))

pub returns-clause-combined : goal.returns-clause-combined
returns-clause-combined c =
    combined_of c.args.changesets.now c.args.catalog.now c.in_ok-normals.normals.items c.in_ok-join.field-0 c.requires.tables c.requires.shapes c.tables-tables.ensures.tables c.in_ok-normals.ensures.forms c.in_ok-join.ensures.normal c.in_ok-join.ensures.fits (rw c.deref.ensures.value at c.in_ok-join.ensures.joined)
