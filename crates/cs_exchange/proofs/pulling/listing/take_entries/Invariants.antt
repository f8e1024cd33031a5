use Rattle.std.proofs.Common.{length}
use Rattle.cs_exchange.proofs.PullingLemmas.Walk.{IsWalked, left_of}
use Rattle.cs_exchange.proofs.pulling.listing.take_entries.Given as goal

-- those before were pulled, and this is left
abbrev pub invariant-loop-next : goal.invariant-loop-next
invariant-loop-next g l =
    g.P.Picker.is_ready l.picker
    × IsWalked g.P.Picker.picks l.fn.first l.fn.entries g.S.RowStore
    l.fn.catalog l.fn.position l.fn.store l.fn.picker l.count l.index (left_of l.next) l.catalog l.position l.store l.picker

abbrev pub decreases-loop-next : goal.decreases-loop-next
decreases-loop-next g l = length (left_of l.next)
