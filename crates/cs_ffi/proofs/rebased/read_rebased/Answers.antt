use Rattle.std.proofs.Common.{inl, inr, List, refl, subst}
use Rattle.std.proofs.lemmas.Result.{err_from_is_err_and}
use Rattle.cs_blob.specs.declared.blob.BlobGroup.{BlobGroup}
use Rattle.cs_rebaser.specs.Faults.{IsRebaseFault}
use Rattle.cs_ffi.specs.RebasedAnswers.{NotConfigured, NotRebased, rebase_answer}
use Rattle.cs_ffi.proofs.OneRebased.{spelled_alone}
use Rattle.cs_ffi.proofs.rebased.read_rebased.Goals as goal

pub returns-in_err-entries : goal.returns-in_err-entries
returns-in_err-entries c =
    let alone = spelled_alone c.args.local.now c.in_ok-changeset.changeset c.in_ok-alone.alone c.in_ok-changeset.ensures.reads c.in_ok-alone.ensures.combined in
    let out = err_from_is_err_and c.from_residual-in_err-entries.result c.from_residual-in_err-entries.ensures.1 in
    rw (out.1, out.2) (inr (c.in_ok-alone.alone, alone, inl c.in_err-entries.ensures))

pub returns-in-Err : goal.returns-in-Err
returns-in-Err c =
    let alone = spelled_alone c.args.local.now c.in_ok-changeset.changeset c.in_ok-alone.alone c.in_ok-changeset.ensures.reads c.in_ok-alone.ensures.combined in
    let not : NotConfigured c.in_ok-entries.entries c.from.result =
    record {
      fault = c.in-Err.fault;
      told = c.in-Err.ensures.fault;
      number = c.from.ensures;
    } in
    inr (c.in_ok-alone.alone, alone, inr (c.in_ok-entries.entries, c.in_ok-entries.ensures, inl not))

pub returns-in_err-rebase : goal.returns-in_err-rebase
returns-in_err-rebase c =
    let alone = spelled_alone c.args.local.now c.in_ok-changeset.changeset c.in_ok-alone.alone c.in_ok-changeset.ensures.reads c.in_ok-alone.ensures.combined in
    let out = err_from_is_err_and c.from_residual-in_err-rebase.result c.from_residual-in_err-rebase.ensures.1 in
    let fault = c.in_err-rebase.field-0.0 in
    let told = subst (λ (b : List BlobGroup). IsRebaseFault fault b c.in_ok-alone.alone) c.in-Ok.ensures.configured c.in_err-rebase.ensures.fault in
    let not : NotRebased c.in_ok-entries.entries c.in_ok-alone.alone (rebase_answer fault) =
    record {
      once = c.in-Ok.ensures.once;
      fault = fault;
      told = told;
      number = refl;
    } in
    rw (out.1, out.2) (inr (c.in_ok-alone.alone, alone, inr (c.in_ok-entries.entries, c.in_ok-entries.ensures, inr not)))
