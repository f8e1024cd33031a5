-- How an answer tells an entry of the log.
use Rattle.cs_store.specs.log.Entry.{body_spelling, kind_of}
use Rattle.cs_store.specs.log.Stored.{IsWithinBound}
use Rattle.cs_store.specs.declared.log.entry.LogEntry.{LogEntry}
use Rattle.cs_wire.specs.Entries.{ToldEntry}

-- its kind, whose push it was, its number, and the bytes of what it does
abbrev pub told_entry : LogEntry → ToldEntry
told_entry entry =
    record { kind = kind_of entry.body; origin = entry.origin; number = entry.number; body = body_spelling entry.body }

-- what an entry does is within the bound on its bytes, so it fits a message
abbrev pub FitsMessage : LogEntry → Type 0
FitsMessage entry = IsWithinBound entry.body
