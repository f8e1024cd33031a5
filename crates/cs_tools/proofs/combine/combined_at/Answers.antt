use Rattle.std.proofs.Common.{Bor, List, ℕ, map, refl}
use Rattle.std.proofs.lemmas.Result.{err_from_is_err_and, IfErr-weaker, IfOk-weaker}
use Rattle.cs_tools.proofs.FileLemmas.{changesets_there, files_refuse_form, files_refuse_together}
use Rattle.cs_tools.proofs.combine.combined_at.Goals as goal

pub returns-in_err-both-clause-err : goal.returns-in_err-both-clause-err
returns-in_err-both-clause-err g c =
    let out = err_from_is_err_and c.from_residual-in_err-both.result c.from_residual-in_err-both.ensures.1 in
    let files = c.changesets_at.new.files in
    let paths = map (λ (path : Bor (List ℕ)). path.now) c.args.paths.now in
    let there = changesets_there (record { remaining = g.F.Input.Read.remaining; consumable_len = g.F.Input.BufRead.consumable_len; failed = g.F.Input.PieceInput.failed }) g.F.InputFiles files paths c.in_ok-owned.owned.items c.in_ok-changesets.changesets.items c.in_ok-owned.ensures.held (rw c.as_slice.ensures.value at c.in_ok-changesets.ensures.spelled) in
    rw (out.1, out.2) (files_refuse_together (record { remaining = g.F.Input.Read.remaining; consumable_len = g.F.Input.BufRead.consumable_len; failed = g.F.Input.PieceInput.failed }) g.F.InputFiles files c.args.form paths c.in_ok-changesets.changesets.items c.in_err-both.field-0.0 there (rw c.deref.ensures.value at c.in_err-both.ensures.fault))

pub returns-clause-ok : goal.returns-clause-ok
returns-clause-ok g c =
    let files = c.changesets_at.new.files in
    let paths = map (λ (path : Bor (List ℕ)). path.now) c.args.paths.now in
    let there = changesets_there (record { remaining = g.F.Input.Read.remaining; consumable_len = g.F.Input.BufRead.consumable_len; failed = g.F.Input.PieceInput.failed }) g.F.InputFiles files paths c.in_ok-owned.owned.items c.in_ok-changesets.changesets.items c.in_ok-owned.ensures.held (rw c.as_slice.ensures.value at c.in_ok-changesets.ensures.spelled) in
    IfOk-weaker c.spelled_in.result _ _ (λ bytes spelled. record {
      changesets = c.in_ok-changesets.changesets.items;
      both = c.in_ok-both.both;
      bytes = bytes.items;
      read = there;
      combined = rw c.deref.ensures.value at c.in_ok-both.ensures.combined;
      spelled = rw c.as_slice-2.ensures.value at spelled;
      written = refl;
    }) c.spelled_in.ensures.ok

pub returns-clause-err : goal.returns-clause-err
returns-clause-err g c =
    let files = c.changesets_at.new.files in
    let paths = map (λ (path : Bor (List ℕ)). path.now) c.args.paths.now in
    let there = changesets_there (record { remaining = g.F.Input.Read.remaining; consumable_len = g.F.Input.BufRead.consumable_len; failed = g.F.Input.PieceInput.failed }) g.F.InputFiles files paths c.in_ok-owned.owned.items c.in_ok-changesets.changesets.items c.in_ok-owned.ensures.held (rw c.as_slice.ensures.value at c.in_ok-changesets.ensures.spelled) in
    IfErr-weaker c.spelled_in.result _ _ (λ told not. files_refuse_form (record { remaining = g.F.Input.Read.remaining; consumable_len = g.F.Input.BufRead.consumable_len; failed = g.F.Input.PieceInput.failed }) g.F.InputFiles files c.args.form paths c.in_ok-changesets.changesets.items c.in_ok-both.both told there (rw c.deref.ensures.value at c.in_ok-both.ensures.combined) (rw c.as_slice-2.ensures.value at not)) c.spelled_in.ensures.err
