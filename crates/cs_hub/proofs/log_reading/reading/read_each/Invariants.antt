use Rattle.std.proofs.Common.{◌≡◌, List, take}
use Rattle.cs_store.specs.declared.log.entry.LogEntry.{LogEntry as Entry}
use Rattle.cs_store.specs.Written.{items_of}
use Rattle.cs_hub.specs.log_reading.Steps.{AreStoredAs}
use Rattle.cs_hub.specs.log_store.Versions.{tables_by}
use Rattle.cs_hub.proofs.log_reading.reading.read_each.Given as goal

-- the first of the entries are read
abbrev pub invariant-loop-index : goal.invariant-loop-index
invariant-loop-index l = (entries : List Entry) → AreStoredAs (tables_by l.fn.catalogs) l.fn.first (items_of l.fn.stored) entries → l.entries.items ≡ take l.index entries
