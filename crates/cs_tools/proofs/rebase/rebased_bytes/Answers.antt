use Rattle.std.proofs.Common.{inl, inr}
use Rattle.std.proofs.lemmas.Result.{err_from_is_err_and, IfErr-weaker}
use Rattle.cs_tools.proofs.InputLemmas.{rebases_two}
use Rattle.cs_tools.proofs.RefusalLemmas.{refuses_blob, refuses_local, refuses_rebased, refuses_taking_first, refuses_taking_second}
use Rattle.cs_tools.proofs.rebase.rebased_bytes.Goals as goal

pub returns-clause-ok : goal.returns-clause-ok
returns-clause-ok g c =
    let spells = rw c.as_slice.ensures.value at c.in_ok-groups.ensures.ok in
    let over = rw c.as_slice-2.ensures.value at c.in_ok-rebaser.ensures.ok in
    let spelled = rw (c.as_slice-3.ensures, c.blob.ensures) at c.spelled_in.ensures.ok in
    rebases_two c.args.form (g.R.Read.remaining c.args.reader.now) (g.R.Read.remaining c.next_or_empty.new.reader) (g.R.Read.remaining c.next_or_empty-2.new.reader) c.in_ok-changeset.changeset.items c.in_ok-blob.blob.items c.in_ok-groups.groups c.in_ok-rebaser.rebaser c.in_ok-local.local c.in_ok-rebaser.rebased c.spelled_in.result c.in_ok-changeset.ensures.ok (spells, c.in_ok-local.ensures.ok) c.in_ok-blob.ensures.ok over spelled

pub returns-clause-err : goal.returns-clause-err
returns-clause-err g c =
    let spells = rw c.as_slice.ensures.value at c.in_ok-groups.ensures.ok in
    let over = rw c.as_slice-2.ensures.value at c.in_ok-rebaser.ensures.ok in
    let not = rw (c.as_slice-3.ensures, c.blob.ensures) at c.spelled_in.ensures.err in
    IfErr-weaker c.spelled_in.result _ _ (λ told why. refuses_rebased _ _ _ _ _ _ _ _ _ told c.in_ok-changeset.ensures.ok (c.in_ok-groups.groups, spells, c.in_ok-local.ensures.ok) c.in_ok-blob.ensures.ok (c.in_ok-rebaser.rebaser, over.0, over.1) why) not

pub returns-in_err-changeset-clause-err : goal.returns-in_err-changeset-clause-err
returns-in_err-changeset-clause-err g c =
    let out = err_from_is_err_and c.from_residual.result c.from_residual.ensures.1 in
    rw (out.1, out.2) (refuses_taking_first _ _ _ _ _ c.in_err-changeset.ensures.err)

pub returns-in_err-groups-clause-err : goal.returns-in_err-groups-clause-err
returns-in_err-groups-clause-err g c =
    let out = err_from_is_err_and c.from_residual-in_err-groups.result c.from_residual-in_err-groups.ensures.1 in
    let bad = rw c.as_slice.ensures.value at c.in_err-groups.ensures.err in
    rw (out.1, out.2) (refuses_local _ _ _ _ _ _ c.in_ok-changeset.ensures.ok (elim bad [ inl memory ↦ inl memory | inr bytes ↦ inr (inl bytes) ]))

pub returns-in_err-local-clause-err : goal.returns-in_err-local-clause-err
returns-in_err-local-clause-err g c =
    let out = err_from_is_err_and c.from_residual-in_err-local.result c.from_residual-in_err-local.ensures.1 in
    let spells = rw c.as_slice.ensures.value at c.in_ok-groups.ensures.ok in
    rw (out.1, out.2) (refuses_local _ _ _ _ _ _ c.in_ok-changeset.ensures.ok (elim c.in_err-local.ensures.err [ inl memory ↦ inl memory | inr not ↦ inr (inr (c.in_ok-groups.groups, spells, not)) ]))

pub returns-in_err-blob-clause-err : goal.returns-in_err-blob-clause-err
returns-in_err-blob-clause-err g c =
    let out = err_from_is_err_and c.from_residual-in_err-blob.result c.from_residual-in_err-blob.ensures.1 in
    let spells = rw c.as_slice.ensures.value at c.in_ok-groups.ensures.ok in
    rw (out.1, out.2) (refuses_taking_second _ _ _ _ _ _ _ _ c.in_ok-changeset.ensures.ok (c.in_ok-groups.groups, spells, c.in_ok-local.ensures.ok) c.in_err-blob.ensures.err)

pub returns-in_err-rebaser-clause-err : goal.returns-in_err-rebaser-clause-err
returns-in_err-rebaser-clause-err g c =
    let out = err_from_is_err_and c.from_residual-in_err-rebaser.result c.from_residual-in_err-rebaser.ensures.1 in
    let spells = rw c.as_slice.ensures.value at c.in_ok-groups.ensures.ok in
    rw (out.1, out.2) (refuses_blob _ _ _ _ _ _ _ _ _ c.in_ok-changeset.ensures.ok (c.in_ok-groups.groups, spells, c.in_ok-local.ensures.ok) c.in_ok-blob.ensures.ok (rw c.as_slice-2.ensures.value at c.in_err-rebaser.ensures.err))
