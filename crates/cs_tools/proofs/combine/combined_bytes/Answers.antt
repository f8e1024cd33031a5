use Rattle.std.proofs.lemmas.Result.{err_from_is_err_and, IfErr-weaker, IfOk-weaker}
use Rattle.cs_tools.proofs.InputLemmas.{spelled_lines}
use Rattle.cs_tools.proofs.RefusalLemmas.{refuses_form, refuses_input, refuses_line, refuses_together}
use Rattle.cs_tools.proofs.combine.combined_bytes.Goals as goal

pub returns-clause-ok : goal.returns-clause-ok
returns-clause-ok g c =
    let lines = rw c.in_default.is at c.all_bytes-inputs.ensures in
    let read = rw c.as_slice.ensures.value at c.in_ok-changesets.ensures.spelled in
    IfOk-weaker c.spelled_in.result _ _ (λ bytes spelled. (
      lines.0,
      lines.2,
      record {
        changesets = c.in_ok-changesets.changesets.items;
        both = c.in_ok-both.both;
        read = spelled_lines lines.0 c.all_bytes-inputs.result.0.items c.in_ok-changesets.changesets.items lines.1 read;
        combined = rw c.deref.ensures.value at c.in_ok-both.ensures.combined;
        spelled = rw c.as_slice-2.ensures.value at spelled;
      },
    )) c.spelled_in.ensures.ok

pub returns-clause-err : goal.returns-clause-err
returns-clause-err g c =
    let lines = rw c.in_default.is at c.all_bytes-inputs.ensures in
    let read = rw c.as_slice.ensures.value at c.in_ok-changesets.ensures.spelled in
    IfErr-weaker c.spelled_in.result _ _ (λ told not. refuses_form _ _ _ _ _ _ _ told lines read (rw c.deref.ensures.value at c.in_ok-both.ensures.combined) (rw c.as_slice-2.ensures.value at not)) c.spelled_in.ensures.err

pub returns-in_err-changesets-clause-err : goal.returns-in_err-changesets-clause-err
returns-in_err-changesets-clause-err g c =
    let out = err_from_is_err_and c.from_residual.result c.from_residual.ensures.1 in
    rw (out.1, out.2) (refuses_input _ _ _ _ _ _ _ c.all_bytes-inputs.ensures (rw c.as_slice.ensures.value at c.in_err-changesets.ensures.err))

pub returns-in-Some-clause-err : goal.returns-in-Some-clause-err
returns-in-Some-clause-err g c =
    let lines = rw c.in-Some.is at c.all_bytes-inputs.ensures in
    refuses_line _ _ _ _ _ _ _ lines (rw c.as_slice.ensures.value at c.in_ok-changesets.ensures.spelled)

pub returns-in_err-both-clause-err : goal.returns-in_err-both-clause-err
returns-in_err-both-clause-err g c =
    let lines = rw c.in_default.is at c.all_bytes-inputs.ensures in
    let out = err_from_is_err_and c.from_residual-in_err-both.result c.from_residual-in_err-both.ensures.1 in
    let read = rw c.as_slice.ensures.value at c.in_ok-changesets.ensures.spelled in
    rw (out.1, out.2) (refuses_together _ _ _ _ _ _ c.in_err-both.field-0.0 lines read (rw c.deref.ensures.value at c.in_err-both.ensures.fault))
