-- What has come is what the reader lost, and grows.
use Rattle.std.proofs.Common.{◌-◌, ◌^◌, length}
use Rattle.std.specs.Io.KnownBytes.{Consumes}
use Rattle.cs_feed.proofs.stream.read_from.Given as goal

abbrev pub invariant-loop-feed : goal.invariant-loop-feed
invariant-loop-feed g l = Consumes (g.R.Read.remaining l.fn.reader) (g.R.Read.remaining l.reader) l.feed

abbrev pub decreases-loop-feed : goal.decreases-loop-feed
decreases-loop-feed g l = 2 ^ 64 - length l.feed
