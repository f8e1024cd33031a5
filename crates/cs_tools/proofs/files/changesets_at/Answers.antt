use Rattle.std.proofs.Common.{◌≡◌, ◌∷◌, ◌++◌, ◌+◌, Bor, List, ℕ, [], arith, inr, map, subst, sym, take, take_all}
use Rattle.std.specs.List.{AllZip}
use Rattle.std.proofs.lemmas.Result.{err_from_is_err_and}
use Rattle.cs_tools.proofs.FileLemmas.{GivenAt, bad_next, given_held, given_kept, given_next}
use Rattle.cs_tools.proofs.files.changesets_at.Goals as goal

pub returns-in_err-changeset_at-clause-err : goal.returns-in_err-changeset_at-clause-err
returns-in_err-changeset_at-clause-err g c =
    let p = err_from_is_err_and c.from_residual-in_err-changeset_at.result c.from_residual-in_err-changeset_at.ensures.1 in
    let see = λ (path : Bor (List ℕ)). path.now in
    let before = c.loop-path.files in
    let after = c.changeset_at.new.files in
    let given = given_kept (record { remaining = g.F.Input.Read.remaining; consumable_len = g.F.Input.BufRead.consumable_len; failed = g.F.Input.PieceInput.failed }) g.F.InputFiles before after c.changeset_at.ensures.kept (map see (take c.loop-path.path-index c.args.paths.now)) c.loop-path.owned.items c.loop-path.invariant in
    rw (p.1, p.2) (inr (bad_next (record { remaining = g.F.Input.Read.remaining; consumable_len = g.F.Input.BufRead.consumable_len; failed = g.F.Input.PieceInput.failed }) g.F.InputFiles after see c.args.paths.now c.loop-path.path-index (record { ref_ptr = (0, 0); now = [] }) c.loop-path.owned.items c.in_err-changeset_at.field-0.0 (omega (arith, c.loop-path-test.true)) given c.in_err-changeset_at.ensures.err))

pub loop-path-preserved : goal.loop-path-preserved
loop-path-preserved g c =
    let see = λ (path : Bor (List ℕ)). path.now in
    let before = c.loop-path.files in
    let after = c.changeset_at.new.files in
    let given = given_kept (record { remaining = g.F.Input.Read.remaining; consumable_len = g.F.Input.BufRead.consumable_len; failed = g.F.Input.PieceInput.failed }) g.F.InputFiles before after c.changeset_at.ensures.kept (map see (take c.loop-path.path-index c.args.paths.now)) c.loop-path.owned.items c.loop-path.invariant in
    let more = given_next (record { remaining = g.F.Input.Read.remaining; consumable_len = g.F.Input.BufRead.consumable_len; failed = g.F.Input.PieceInput.failed }) g.F.InputFiles after see c.args.paths.now c.loop-path.path-index (record { ref_ptr = (0, 0); now = [] }) c.loop-path.owned.items c.in_ok-changeset_at.field-0 (omega (arith, c.loop-path-test.true)) given (c.in_ok-changeset_at.ensures.held, c.in_ok-changeset_at.ensures.spelled) in
    let grown : c.push.new.self.items ≡ c.loop-path.owned.items ++ c.in_ok-changeset_at.field-0 ∷ [] = c.in_ok-push.ensures.items in
    subst (λ (xs : List (List ℕ)). AllZip (GivenAt (record { remaining = g.F.Input.Read.remaining; consumable_len = g.F.Input.BufRead.consumable_len; failed = g.F.Input.PieceInput.failed }) g.F.InputFiles after) (map see (take (c.loop-path.path-index + 1) c.args.paths.now)) xs) (sym grown) more

pub returns-clause-held : goal.returns-clause-held
returns-clause-held g c =
    let see = λ (path : Bor (List ℕ)). path.now in
    let files = c.loop-path.files in
    let whole : take c.loop-path.path-index c.args.paths.now ≡ c.args.paths.now = take_all c.loop-path.path-index c.args.paths.now (omega (arith, c.loop-path-test.false)) in
    given_held (record { remaining = g.F.Input.Read.remaining; consumable_len = g.F.Input.BufRead.consumable_len; failed = g.F.Input.PieceInput.failed }) g.F.InputFiles files (map see c.args.paths.now) c.loop-path.owned.items
    (subst (λ (xs : List (Bor (List ℕ))). AllZip (GivenAt (record { remaining = g.F.Input.Read.remaining; consumable_len = g.F.Input.BufRead.consumable_len; failed = g.F.Input.PieceInput.failed }) g.F.InputFiles files) (map see xs) c.loop-path.owned.items) whole c.loop-path.invariant)
