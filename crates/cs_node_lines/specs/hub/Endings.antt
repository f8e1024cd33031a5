-- How a hub that answers lines ends (profile of this project): which lines were answered, what is written, and what its store
-- holds.
use Rattle.std.specs.Prelude.{◌≡◌, ◌<◌, ◌-◌, ◌^◌, ◌⊎◌, ⊤, ℕ, List, [], Option, Result, Ok, Err, length, flat_map}
use Rattle.std.specs.Io.KnownBytes.{Appends, Keeps}
use Rattle.cs_hub.specs.Calls.{AnswersHub, StaysHub}
use Rattle.cs_hub.specs.Holding.{Holding, Shows}
use Rattle.cs_hub.specs.Serves.{IsSame, Serves}
use Rattle.cs_store.specs.declared.log.entry.TheConstants.{MAX_ENTRIES}
use Rattle.cs_hub.specs.judgement.Judged.{hub_of}
use Rattle.cs_lines.specs.Lines.{hex_line}
use Rattle.cs_lines.specs.Reading.{AreAllBefore}
use Rattle.cs_lines.specs.Served.{AnswersAll, AreAllLines, AreFirstLines}
use Rattle.cs_lines.specs.Writing.{AppendsBroken}
use Rattle.cs_lines.specs.declared.serve.Stop.{Stop}
use Rattle.cs_lines.specs.declared.serve.Stop.TheVariants as stopped
use Rattle.cs_lines.specs.declared.serve.TheConstants.{ASKS}
use Rattle.cs_store.specs.declared.log.entry.LogEntry.{LogEntry}
use Rattle.cs_hub.specs.log_opening.Opens.{IsHubAt, IsHubFault}
use Rattle.cs_hub.specs.log_store.Shows.{ShowsLog}
use Rattle.cs_opening.specs.declared.fault.OpenFault.{OpenFault}
use Rattle.cs_opening.specs.declared.fault.OpenFault.TheVariants as opening
use Rattle.cs_store.specs.Contents.{nothing}
use Rattle.cs_store.specs.declared.store.RowStore.{Ghosts}
use Rattle.cs_value.specs.declared.catalog.TableDef.{TableDef}
use Rattle.cs_node_lines.specs.declared.hub.fault.ServingFault.{ServingFault}
use Rattle.cs_node_lines.specs.declared.hub.fault.ServingFault.TheVariants.{Memory, Open, Read, Write}

-- faults of lines and of an opening as the run's; want of memory is told as such alone
abbrev pub of_stop : Stop → ServingFault
of_stop stopped.Read = Read
of_stop stopped.Write = Write

abbrev pub of_opening : OpenFault → ServingFault
of_opening opening.Memory = Memory
of_opening opening.Damaged = Open opening.Damaged
of_opening opening.Device = Open opening.Device
of_opening opening.Mismatch = Open opening.Mismatch

module _ {S : Type 0} (g : Ghosts S) (tables : List TableDef) where
  -- the hub of these tables was opened over the store, with the log that the store showed, or none where it held nothing
  pub record IsOpenedOver (store : S) (hub : Holding S) : Type 0 where
    pub tables_are : hub.catalog ≡ tables
    pub was_honest : g.honest hub.store → g.honest store
    pub opened : g.honest hub.store → IsHubAt tables (g.contents store) (g.contents hub.store) hub.newest
    pub fresh : g.honest hub.store → g.contents store ≡ nothing → Shows g.contents hub []
    pub shown : g.honest hub.store → (log : List LogEntry) → ShowsLog tables (g.contents store) log → Shows g.contents hub log
    pub kept : g.failed hub.store ≡ g.failed store

  -- a hub opened over the store answered the lines by these answers, one after another, and the store is left as it then is
  pub record AnsweredOver (store last : S) (lines answers : List (List ℕ)) : Type 0 where
    pub first : Holding S
    pub end : Holding S
    pub opened : IsOpenedOver store first
    pub answered : AnswersAll (AnswersHub g MAX_ENTRIES) (StaysHub g) first lines answers end
    pub left : last ≡ end.store
    pub was_honest : g.honest last → g.honest store
    -- over a store that never fails, but where what it gives was misread, they are answered by the log that was shown
    pub by_log : ((s : S) → g.failed s ≡ g.misreads s) → g.failed store < 2 ^ 64 - 1 → g.honest last → (log : List LogEntry) → Shows g.contents first log
        → (next : List LogEntry) × AnswersAll (Serves MAX_ENTRIES) IsSame (hub_of tables log) lines answers (hub_of tables next) × Shows g.contents end next

  -- where the store is honest, it holds what it held, and isn't opened for this reason
  pub record NotOpenedOver (store last : S) (fault : OpenFault) : Type 0 where
    pub same : g.honest last → g.contents last ≡ g.contents store
    pub refused : g.honest last → IsHubFault tables (g.contents store) fault

  -- all lines were answered
  abbrev pub EndsAnswered : S → S → Option (List ℕ) → Option (List ℕ) → Option (List ℕ) → Type 0
  EndsAnswered store last input old new =
      (lines : List (List ℕ)) × (answers : List (List ℕ)) × AreAllLines input lines
      × AnsweredOver store last lines answers × Appends old new (flat_map hex_line answers)

  -- all lines before the one at which a read failed, or lines without end
  abbrev pub EndsReading : S → S → Option (List ℕ) → Option (List ℕ) → Type 0 → Option (List ℕ) → Option (List ℕ) → Type 0
  EndsReading store last input left read_failed old new =
      (lines : List (List ℕ)) × (answers : List (List ℕ)) × AreAllBefore input left lines
      × AnsweredOver store last lines answers × Appends old new (flat_map hex_line answers)
      × (read_failed ⊎ (length lines ≡ ASKS))

  -- some lines, to a failed write within the last answer
  abbrev pub EndsWriting : S → S → Option (List ℕ) → Type 0 → Option (List ℕ) → Option (List ℕ) → Type 0
  EndsWriting store last input write_failed old new =
      (lines : List (List ℕ)) × (answers : List (List ℕ)) × AreFirstLines input lines
      × AnsweredOver store last lines answers × AppendsBroken old new answers × write_failed

  -- or the hub wasn't opened, and nothing was written
  abbrev pub EndsServingOn : S → S → Option (List ℕ) → Option (List ℕ) → Type 0 → Type 0 → Option (List ℕ) → Option (List ℕ)
      → Result ⊤ ServingFault → Type 0
  EndsServingOn store last input left read_failed write_failed old new (Ok done) = EndsAnswered store last input old new
  EndsServingOn store last input left read_failed write_failed old new (Err Read) = EndsReading store last input left read_failed old new
  EndsServingOn store last input left read_failed write_failed old new (Err Write) = EndsWriting store last input write_failed old new
  EndsServingOn store last input left read_failed write_failed old new (Err Memory) = NotOpenedOver store last opening.Memory × Keeps old new
  EndsServingOn store last input left read_failed write_failed old new (Err (Open fault)) = NotOpenedOver store last fault × Keeps old new
