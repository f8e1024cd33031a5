use Rattle.std.proofs.Common.{◌≡◌, List, length}
use Rattle.cs_wire.specs.Entries.{ToldEntry, StandBefore}
use Rattle.cs_wire.proofs.entries.check_entries.Given as goal

abbrev pub invariant-loop : goal.invariant-loop
invariant-loop l = (before : List ToldEntry) × (length before ≡ l.counter) × StandBefore before l.rest l.bytes
