-- The push that is under way, as an entry of the log (profile of this project).
use Rattle.std.specs.Prelude.{ℕ, List, Option, Some, None}
use Rattle.cs_normal.specs.declared.normal.TableChanges.{TableChanges}
use Rattle.cs_store.specs.declared.log.body.Body.TheVariants.{Changes}
use Rattle.cs_store.specs.declared.log.entry.LogEntry.{LogEntry}
use Rattle.cs_pending.specs.declared.position.position.Position.{Position}

-- the entry that changes under way would be
abbrev pub entry_under_way : ℕ → ℕ → Option (List TableChanges) → Option LogEntry
entry_under_way id number None = None
entry_under_way id number (Some changes) = Some (record { origin = id; number = number; body = Changes changes })

-- the push that is under way, as the entry that it would be
abbrev pub flight_entry : Position → Option LogEntry
flight_entry position = entry_under_way position.id position.number position.flight
