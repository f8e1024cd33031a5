-- What a store holds of a hub with a log (profile of this project).
use Rattle.std.specs.Prelude.{◌≡◌, ◌≢◌, ℕ, pos, List, length, option_map, Option, Some, None, slice_get}
use Rattle.std.specs.FinMap.{empty, get}
use Rattle.cs_value.specs.declared.catalog.TableDef.{TableDef}
use Rattle.cs_store.specs.log.Log.{IsLog, catalog_at, state_of}
use Rattle.cs_store.specs.log.Stored.{AreEntriesOf, stored_body}
use Rattle.cs_store.specs.declared.log.entry.LogEntry.{LogEntry}
use Rattle.cs_store.specs.Contents.{Contents, LogItem, StorePlace, log_count, log_entry, meta_value, name_text}
use Rattle.cs_store.specs.States.{Holds}
use Rattle.cs_store.specs.declared.names.MetaName.{MetaName}
use Rattle.cs_store.specs.declared.names.MetaName.TheVariants.{Id, Version, Number, Flight, Pending, Catalog}
use Rattle.cs_pending.specs.Shows.{IsElsewhere}
use Rattle.cs_pending.specs.position.Values.{catalog_bytes}

-- an entry as the store has it
abbrev pub item_of_entry : LogEntry → LogItem
item_of_entry entry = record { origin = pos entry.origin; number = entry.number; body = stored_body entry.body }

-- the store has the entries of the log, each at its version, and no other
pub record HasEntries (contents : Contents) (log : List LogEntry) : Type 0 where
  pub stored : (version : ℕ) → log_entry contents version ≡ option_map item_of_entry (slice_get log version)
  pub counted : log_count contents ≡ length log

-- the value of each name, or none: a hub keeps the tables that it opened with, alone
abbrev pub hub_value : List TableDef → MetaName → Option (List ℕ)
hub_value opening Id = None
hub_value opening Version = None
hub_value opening Number = None
hub_value opening Flight = None
hub_value opening Pending = None
hub_value opening Catalog = Some (catalog_bytes opening)

-- the value of each name is a hub's, and there is no other name
pub record HasHubValues (opening : List TableDef) (contents : Contents) : Type 0 where
  pub values : (name : MetaName) → meta_value contents name ≡ hub_value opening name
  pub names : (text : List ℕ) → ((name : MetaName) → name_text name ≢ text) → get contents.meta text ≡ None

-- the store is that of a hub that opened with these tables and has this log. It holds the rows that the log makes, its entries, and
-- nothing else
pub record ShowsLog (opening : List TableDef) (contents : Contents) (log : List LogEntry) : Type 0 where
  pub is_log : IsLog opening log
  pub fit : AreEntriesOf opening log
  pub rows : Holds (catalog_at opening log (length log)) contents (state_of log)
  pub elsewhere : (place : StorePlace) → IsElsewhere opening place → get contents.rows place ≡ None
  pub pending : contents.pending ≡ empty
  pub values : HasHubValues opening contents
  pub entries : HasEntries contents log
