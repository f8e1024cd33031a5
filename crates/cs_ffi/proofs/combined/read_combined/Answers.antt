use Rattle.std.proofs.Common.{◌∙◌, arith, subst}
use Rattle.std.proofs.lemmas.Grind.{common_steps}
use Rattle.std.proofs.lemmas.Result.{err_from_is_err_and}
use Rattle.cs_group.specs.Combined.{HasCombineFault}
use Rattle.cs_ffi.proofs.Fit.{fault_is_memory}
use Rattle.cs_ffi.proofs.Parts.{cut_adds_up}
use Rattle.cs_ffi.proofs.combined.read_combined.Goals as goal

pub returns-then-not-add_up-clause-fit : goal.returns-then-not-add_up-clause-fit
returns-then-not-add_up-clause-fit c = λ given.
    let adds = cut_adds_up c.args.lengths.now c.args.inputs.now given.changesets given.cut in
    let told = c.add_up.ensures in
    let test = c.if-not-add_up.true in
    grind (arith, common_steps, adds, told, test)

pub returns-in_err-combine_spelled-clause-fit : goal.returns-in_err-combine_spelled-clause-fit
returns-in_err-combine_spelled-clause-fit c = λ given.
    let found = c.in_ok-changesets.ensures.only given.changesets given.cut in
    let fault = c.in_err-combine_spelled.field-0.0 in
    let told = subst (HasCombineFault fault) (c.deref.ensures.value ∙ found) c.in_err-combine_spelled.ensures.fault in
    let out = err_from_is_err_and c.from_residual-in_err-combine_spelled.result c.from_residual-in_err-combine_spelled.ensures.1 in
    rw (out.1, out.2) (fault_is_memory c.no_fault_where_fit.ensures fault given.changesets given.can told)
