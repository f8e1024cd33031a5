-- How a replica that is worked by lines ends (profile of this project): what was done, what is printed, and what stopped it.
use Rattle.std.specs.Prelude.{◌≡◌, ◌⊎◌, ◌≤◌, ⊤, ℕ, List, [], ◌∷◌, ◌++◌, Option, Result, Ok, Err}
use Rattle.std.specs.Io.KnownBytes.{Appends, Keeps}
use Rattle.cs_node_lines.specs.asks.Reading.{AreAllAsks, IsReadFault}
use Rattle.cs_node_lines.specs.declared.asks.ask.Ask.{Ask}
use Rattle.cs_node_lines.specs.declared.asks.fault.ReadFault.{ReadFault}
use Rattle.cs_node_lines.specs.declared.asks.fault.ReadFault.TheVariants as reading
use Rattle.cs_replica.specs.Step.{Member}
use Rattle.cs_opening.specs.Wider.{IsOpenedBy, IsRefused}
use Rattle.cs_opening.specs.declared.fault.OpenFault.{OpenFault}
use Rattle.cs_opening.specs.declared.fault.OpenFault.TheVariants as opening
use Rattle.cs_pending.specs.position.Shows.{ShowsAt}
use Rattle.cs_store.specs.Calls.{MoreFailures}
use Rattle.cs_store.specs.Contents.{Contents}
use Rattle.cs_store.specs.declared.store.RowStore.{Ghosts}
use Rattle.cs_value.specs.declared.catalog.TableDef.{TableDef}
use Rattle.cs_node_lines.specs.working.LineStep.{InTurn, LineStep}
use Rattle.cs_node_lines.specs.declared.working.fault.NodeFault.{NodeFault}
use Rattle.cs_node_lines.specs.declared.working.fault.NodeFault.TheVariants.{Line, Memory, Open, Read, Write}

-- faults of a reading and of an opening as a node's; want of memory is told as such alone
abbrev pub of_reading : ReadFault → NodeFault
of_reading reading.Memory = Memory
of_reading reading.Read = Read
of_reading (reading.Line number) = Line number

abbrev pub of_opening : OpenFault → NodeFault
of_opening opening.Memory = Memory
of_opening opening.Damaged = Open opening.Damaged
of_opening opening.Device = Open opening.Device
of_opening opening.Mismatch = Open opening.Mismatch

-- texts, one behind another
abbrev pub printed : List (List ℕ) → List ℕ
printed [] = []
printed (text ∷ texts) = text ++ printed texts

-- what is printed where a line's text isn't: the texts before it, and a front of its own where the writer failed
abbrev pub BreaksOff : NodeFault → Type 0 → Option (List ℕ) → Option (List ℕ) → List ℕ → List ℕ → Type 0
BreaksOff Memory write_failed old new before text = Appends old new before
BreaksOff Write write_failed old new before text =
    (front : List ℕ) × (after : List ℕ) × (text ≡ front ++ after) × Appends old new (before ++ front) × write_failed
BreaksOff Read write_failed old new before text = ⊥
BreaksOff (Line number) write_failed old new before text = ⊥
BreaksOff (Open fault) write_failed old new before text = ⊥

module _ {S : Type 0} (g : Ghosts S) (tables : List TableDef) (id : ℕ) where
  -- where the store is honest in the end, it was opened as the replica with this id, by the handed tables or wider ones that it keeps.
  -- These steps were made of it, with these texts. They go from its count of failures to that in the end, and it shows what they left
  pub record Worked {A : Type 0} (step : ℕ → ℕ → Member → A → List ℕ → Member → Type 0) (store last : S) (asked : List A) (texts : List (List ℕ)) : Type 0 where
    pub was_honest : g.honest last → g.honest store
    pub later : g.failed store ≤ g.failed last
    pub worked : g.honest last → (first : Contents) × (before : Member) × (after : Member)
        × IsOpenedBy tables id (g.contents store) first before.tables before.position × ShowsAt before.tables first before.position before.view
        × InTurn step (g.failed store) (g.failed last) before asked texts after × ShowsAt after.tables (g.contents last) after.position after.view

  -- where the store is honest, it holds what it held, and isn't opened for this reason: for a failed device only where its count
  -- rose
  pub record NotOpened (store last : S) (fault : OpenFault) : Type 0 where
    pub was_honest : g.honest last → g.honest store
    pub later : g.failed store ≤ g.failed last
    pub same : g.honest last → g.contents last ≡ g.contents store
    pub refused : g.honest last → IsRefused tables id (g.contents store) fault
    pub cause : fault ≡ opening.Device → MoreFailures (g.failed store) (g.failed last)

  -- some of the lines were worked. The text of the last of them isn't printed whole: memory was refused for it, or the writer
  -- failed
  abbrev pub WorkedUpTo : List Ask → S → S → NodeFault → Type 0 → Option (List ℕ) → Option (List ℕ) → Type 0
  WorkedUpTo asks store last fault write_failed old new =
      (done : List Ask) × (ask : Ask) × (later : List Ask) × (texts : List (List ℕ)) × (text : List ℕ)
      × (asks ≡ done ++ ask ∷ later) × Worked LineStep store last (done ++ ask ∷ []) (texts ++ text ∷ [])
      × BreaksOff fault write_failed old new (printed texts) text

  -- all lines were worked and their texts are printed; or the replica isn't opened, and nothing is; or it ended at a line
  abbrev pub EndsWorking : List Ask → S → S → Type 0 → Option (List ℕ) → Option (List ℕ) → Result ⊤ NodeFault → Type 0
  EndsWorking asks store last write_failed old new (Ok done) =
      (texts : List (List ℕ)) × Worked LineStep store last asks texts × Appends old new (printed texts)
  EndsWorking asks store last write_failed old new (Err fault) =
      ((why : OpenFault) × (fault ≡ of_opening why) × NotOpened store last why × Keeps old new)
      ⊎ WorkedUpTo asks store last fault write_failed old new

  -- the input was read whole, and its lines were worked so; or it wasn't, and nothing was done
  abbrev pub EndsNode : Option (List ℕ) → Option (List ℕ) → Type 0 → S → S → Type 0 → Option (List ℕ) → Option (List ℕ) → Result ⊤ NodeFault → Type 0
  EndsNode input left read_failed store last write_failed old new result =
      ((asks : List Ask) × AreAllAsks tables input asks × EndsWorking asks store last write_failed old new result)
      ⊎ ((why : ReadFault) × IsReadFault tables read_failed input left why × (result ≡ Err (of_reading why)) × (last ≡ store) × Keeps old new)
