use Rattle.std.proofs.Common.{Bor, ℕ, ◌+◌, List, [], drop, take}
use Rattle.std.specs.List.{flat_map}
use Rattle.std.proofs.lemmas.Result.{err_from_is_err_and}
use Rattle.cs_feed.proofs.Pushed.{pushed_fault, pieces_split}
use Rattle.cs_feed.proofs.pieces.read_pieces.Goals as goal

pub returns-in_err-push : goal.returns-in_err-push
returns-in_err-push c =
    let p = err_from_is_err_and c.from_residual.result c.from_residual.ensures.1 in
    let see = λ (piece : Bor (List ℕ)). piece.now in
    let pieces = c.args.pieces.now in
    let i = c.loop-piece.piece-index in
    rw (p.1, p.2) (pushed_fault c.changesets.ensures c.in_err-push.field-0.0 c.loop-piece.feed _ _ c.in_err-push.ensures.found (flat_map see (take i pieces)) (flat_map see (drop (i + 1) pieces)) (flat_map see pieces) c.loop-piece.invariant (pieces_split (Bor (List ℕ)) see pieces i (record { ref_ptr = (0, 0); now = [] }) c.loop-piece-test.true))
