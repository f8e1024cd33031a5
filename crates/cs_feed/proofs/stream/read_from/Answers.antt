use Rattle.std.proofs.Common.{◌≡◌, arith, length}
use Rattle.std.proofs.lemmas.Result.{err_from_is_err_and}
use Rattle.cs_feed.proofs.Streamed.{came_all, stream_cut, stream_told}
use Rattle.cs_feed.proofs.stream.read_from.Goals as goal

pub returns-in_err-feed_next : goal.returns-in_err-feed_next
returns-in_err-feed_next g c =
    let p = err_from_is_err_and c.from_residual.result c.from_residual.ensures.1 in
    rw (p.1, p.2) (stream_told (g.R.Read.remaining c.args.reader.now) (g.R.Read.remaining c.loop-feed.reader) (g.R.Read.remaining c.feed_next.new.self) c.loop-feed.feed (g.R.PieceInput.failed c.feed_next.new.self) c.in_err-feed_next.field-0.0 c.loop-feed.invariant c.in_err-feed_next.ensures.told c.in_err-feed_next.ensures.failed)

pub returns-in_err-finish : goal.returns-in_err-finish
returns-in_err-finish g c =
    let p = err_from_is_err_and c.from_residual-in_err-finish.result c.from_residual-in_err-finish.ensures.1 in
    let same : length c.feed_next.new.feed ≡ length c.loop-feed.feed = omega arith in
    let came = came_all (g.R.Read.remaining c.args.reader.now) (g.R.Read.remaining c.loop-feed.reader) (g.R.Read.remaining c.feed_next.new.self) c.loop-feed.feed c.feed_next.new.feed c.loop-feed.invariant c.in_ok-feed_next.ensures.fed same in
    rw (p.1, p.2) (stream_cut (g.R.Read.remaining c.args.reader.now) (g.R.Read.remaining c.feed_next.new.self) c.feed_next.new.feed (g.R.PieceInput.failed c.feed_next.new.self) c.in_err-finish.field-0.0 came c.in_err-finish.ensures.gives)
