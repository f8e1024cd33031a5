-- An entry that others decided, behind a hub's log. (Profile of this project.)
use Rattle.std.specs.Prelude.{◌≤◌, List, length}
use Rattle.cs_value.specs.declared.catalog.TableDef.{TableDef}
use Rattle.cs_store.specs.log.Log.{IsNextEntry, catalog_at}
use Rattle.cs_store.specs.log.Stored.{IsEntryOf}
use Rattle.cs_store.specs.declared.log.entry.LogEntry.{LogEntry}
use Rattle.cs_hub.specs.declared.appending.fault.AppendFault.{AppendFault}
use Rattle.cs_hub.specs.declared.appending.fault.AppendFault.TheVariants as append
use Rattle.cs_hub.specs.declared.follow_fault.FollowFault.{FollowFault}
use Rattle.cs_hub.specs.declared.follow_fault.FollowFault.TheVariants.{Memory, Full, Undefined, Device}
use Rattle.cs_store.specs.declared.log.entry.TheConstants.{MAX_ENTRIES}

-- it fits behind a log: it is one of the tables that the catalog has there, and no larger than one may be. Each of its changes is
-- defined on the rows there
abbrev pub FitsBehind : List TableDef → List LogEntry → LogEntry → Type 0
FitsBehind opening log entry = IsEntryOf (catalog_at opening log (length log)) entry × IsNextEntry opening log entry

-- why it isn't appended; Memory and Device may come before
abbrev pub IsFollowFault : List TableDef → List LogEntry → LogEntry → FollowFault → Type 0
IsFollowFault opening log entry Memory = Unit {0}
IsFollowFault opening log entry Full = MAX_ENTRIES ≤ length log
IsFollowFault opening log entry Undefined = FitsBehind opening log entry → ⊥
IsFollowFault opening log entry Device = Unit {0}

-- what comes of the faults of appending
abbrev pub follow_fault_of : AppendFault → FollowFault
follow_fault_of append.Memory = Memory
follow_fault_of (append.Conflict conflict) = Undefined
follow_fault_of append.Device = Device
