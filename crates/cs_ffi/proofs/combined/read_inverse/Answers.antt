use Rattle.std.proofs.Common.{ℕ, [], ◌∷◌, arith, subst}
use Rattle.std.proofs.lemmas.Result.{err_from_is_err_and}
use Rattle.cs_group.specs.Combined.{HasCombineFault}
use Rattle.cs_ffi.specs.Answers.{TellsFault}
use Rattle.cs_ffi.proofs.Fit.{fault_is_memory}
use Rattle.cs_ffi.proofs.combined.read_inverse.Goals as goal

pub returns-in_err-changeset-clause-told : goal.returns-in_err-changeset-clause-told
returns-in_err-changeset-clause-told c = λ fault offset is.
    let told = c.in_err-changeset.ensures.told fault offset is in
    let out = err_from_is_err_and c.from_residual.result c.from_residual.ensures.1 in
    rw (out.1, out.2) (subst (λ (there : ℕ). TellsFault fault there c.in_err-changeset.field-0.0) (omega arith) told)

pub returns-in_err-alone-clause-told : goal.returns-in_err-alone-clause-told
returns-in_err-alone-clause-told c = λ fault offset is. absurd (c.in_ok-changeset.ensures.told fault offset is)

pub returns-in_err-alone-clause-fit : goal.returns-in_err-alone-clause-fit
returns-in_err-alone-clause-fit c = λ given.
    let found = c.in_ok-changeset.ensures.only given.0 given.1 in
    let fault = c.in_err-alone.field-0.0 in
    let told = subst (λ groups. HasCombineFault fault (groups ∷ [])) found c.in_err-alone.ensures.fault in
    let out = err_from_is_err_and c.from_residual-in_err-alone.result c.from_residual-in_err-alone.ensures.1 in
    rw (out.1, out.2) (fault_is_memory c.no_fault_where_fit.ensures fault (given.0 ∷ []) given.2 told)

pub returns-clause-told : goal.returns-clause-told
returns-clause-told c = λ fault offset is. absurd (c.in_ok-changeset.ensures.told fault offset is)
