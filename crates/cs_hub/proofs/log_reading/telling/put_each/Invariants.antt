use Rattle.std.proofs.Common.{◌≡◌, ◌++◌, List, take}
use Rattle.std.specs.List.{flat_map}
use Rattle.cs_hub.specs.log_reading.Steps.{AreToldAs}
use Rattle.cs_store.specs.Written.{items_of}
use Rattle.cs_wire.specs.Entries.{ToldEntry, entry_spelling}
use Rattle.cs_hub.proofs.log_reading.telling.put_each.Given as goal

-- the first of the entries are told
abbrev pub invariant-loop-entry : goal.invariant-loop-entry
invariant-loop-entry l = (tolds : List ToldEntry) → AreToldAs (items_of l.fn.stored) tolds → l.out.items ≡ l.fn.out.items ++ flat_map entry_spelling (take l.entry-index tolds)
