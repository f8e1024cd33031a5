-- What a hub tells a replica that asks to catch up (profile of this project). `entries` are those of the log from the version on that the
-- replica has come to.
use Rattle.std.specs.Prelude.{◌≡◌, ◌⊎◌, ◌+◌, ◌<◌, ◌≤◌, ℕ, List, All, length, map, take, Some, slice_get}
use Rattle.cs_value.specs.declared.catalog.TableDef.{TableDef}
use Rattle.cs_store.specs.log.Entry.{WidensNone, entry_changes}
use Rattle.cs_store.specs.declared.log.entry.LogEntry.{LogEntry}
use Rattle.cs_hub.specs.catching.Consolidated.{AreShort, IsConsolidated}
use Rattle.cs_hub.specs.declared.catching.caught.Caught.{Caught}
use Rattle.cs_hub.specs.declared.catching.caught.Caught.TheVariants.{Alone, Merged}

-- an entry that is told alone, and not as one with others: the asker's own, or one that widens a table
abbrev pub IsToldAlone : ℕ → LogEntry → Type 0
IsToldAlone asker entry = (entry.origin ≡ asker) ⊎ (WidensNone entry.body → ⊥)

-- none of these entries is
abbrev pub NoneIsAlone : ℕ → List LogEntry → Type 0
NoneIsAlone asker entries = All (λ entry. IsToldAlone asker entry → ⊥) entries

-- these entries may be told as one to whoever has asked for so many at most. None is told alone, and together they are short enough
pub record MayBeOne (tables : List TableDef) (asker limit : ℕ) (entries : List LogEntry) : Type 0 where
  pub within : length entries ≤ limit
  pub others : NoneIsAlone asker entries
  pub short : AreShort tables (map entry_changes entries)

-- taken one by one: so many first entries may be told as one, and so may fewer of them. With the next one, if there is one, they may not
pub record IsRun (tables : List TableDef) (asker limit : ℕ) (entries : List LogEntry) (count : ℕ) : Type 0 where
  pub there : count ≤ length entries
  pub each : (n : ℕ) → n ≤ count → MayBeOne tables asker limit (take n entries)
  pub ends : count < length entries → MayBeOne tables asker limit (take (count + 1) entries) → ⊥

-- some are asked for, and the first is told alone
pub record BeginsAlone (asker limit : ℕ) (entries : List LogEntry) : Type 0 where
  pub some : 0 < limit
  pub entry : LogEntry
  pub first : slice_get entries 0 ≡ Some entry
  pub alone : IsToldAlone asker entry

-- what is told: the first entry, alone; or the run as one changeset
abbrev pub Catches : List TableDef → ℕ → ℕ → List LogEntry → Caught → Type 0
Catches tables asker limit entries Alone = BeginsAlone asker limit entries
Catches tables asker limit entries (Merged count changes) =
    (BeginsAlone asker limit entries → ⊥) × IsRun tables asker limit entries count × IsConsolidated tables (take count entries) changes
