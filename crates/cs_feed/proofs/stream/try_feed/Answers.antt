use Rattle.std.proofs.Common.{refl, subst}
use Rattle.std.proofs.lemmas.Result.{err_from_is_err_and}
use Rattle.std.specs.Io.BufRead.{FillKeeps}
use Rattle.cs_feed.proofs.Streamed.{fed, of_bytes, told_ahead}
use Rattle.cs_feed.proofs.stream.try_feed.Goals as goal

pub returns-in_err-push-clause-told : goal.returns-in_err-push-clause-told
returns-in_err-push-clause-told g c =
    let p = err_from_is_err_and c.from_residual.result c.from_residual.ensures.1 in
    λ fault offset told. told_ahead c.changesets.ensures _ c.in-Ok.piece.now _ _ fault offset c.in-Ok.ensures.front (c.in_err-push.ensures.found fault offset (of_bytes c.in_err-push.field-0.0 fault offset (rw (p.1, p.2) at told)))

pub returns-clause-fed : goal.returns-clause-fed
returns-clause-fed g c =
    let rested = c.fill_buf.follows.lender-at-none in
    let filled = subst (FillKeeps _ (g.R.Read.remaining rested) (g.R.BufRead.consumable_len rested)) c.in-Ok.is c.fill_buf.follows.holds-at-none in
    λ done. fed _ _ _ _ c.in-Ok.piece.now _ _ _ refl c.in-Ok.ensures.front c.in-Ok.ensures.end filled.0 filled.1 c.consume.ensures.bytes c.in_ok-push.ensures.taken
