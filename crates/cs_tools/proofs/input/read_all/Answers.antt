use Rattle.std.proofs.Common.{List, ℕ, arith, inl, inr, subst}
use Rattle.std.specs.Prelude.{Err}
use Rattle.std.proofs.lemmas.Result.{err_from_is_err_and}
use Rattle.cs_change.specs.Spelling.{FitsChangeset, changeset_spelling}
use Rattle.cs_changeset.specs.Reading.{IsChangesetFault, ReadsWhole}
use Rattle.cs_tools.proofs.InputLemmas.{bad_later, first_more, told_of_codec}
use Rattle.cs_tools.proofs.input.read_all.Goals as goal

pub loop-bytes-preserved : goal.loop-bytes-preserved
loop-bytes-preserved c =
    first_more c.args.inputs.now c.loop-bytes.bytes-index c.bytes-item.result c.loop-bytes.changesets.items c.push.new.self.items c.in_ok-read.field-0 (omega (arith, c.loop-bytes-test.true)) c.bytes-item.is c.in_ok-push.ensures.items c.loop-bytes.invariant (rw c.as_slice.ensures.value at c.in_ok-read.ensures.reads)

pub returns-in_err-read-clause-err : goal.returns-in_err-read-clause-err
returns-in_err-read-clause-err c =
    let out = err_from_is_err_and c.from_residual-in_err-read.result c.from_residual-in_err-read.ensures.1 in
    let reads = subst (λ (bytes : List ℕ). ReadsWhole changeset_spelling FitsChangeset IsChangesetFault bytes (Err c.in_err-read.field-0.0)) c.as_slice.ensures.value c.in_err-read.ensures.reads in
    rw (out.1, out.2) (elim (told_of_codec changeset_spelling FitsChangeset IsChangesetFault c.bytes-item.result.items c.in_err-read.field-0.0 reads) [
      | inl memory ↦ inl memory
      | inr bad ↦ inr (bad_later c.loop-bytes.bytes-index c.args.inputs.now c.loop-bytes.changesets.items c.bytes-item.result _ c.loop-bytes.invariant.spelled (omega (arith, c.loop-bytes-test.true)) c.bytes-item.is bad)
    ])
