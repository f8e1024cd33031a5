-- What a hub over a store in memory answers, by its log.
use Rattle.std.proofs.Common.{◌≡◌, ℕ, List, [], arith, refl}
use Rattle.std.specs.Prelude.{⊤, Option, Result, Ok, Err}
use Rattle.cs_hub.specs.Serves.{IsSame, Serves}
use Rattle.cs_store.specs.declared.log.entry.TheConstants.{MAX_ENTRIES}
use Rattle.cs_node_lines.specs.hub.Endings.{AnsweredOver, EndsAnswered, EndsReading, EndsServingOn, EndsWriting}
use Rattle.cs_node_lines.specs.declared.hub.fault.ServingFault.{ServingFault}
use Rattle.cs_node_lines.specs.declared.hub.fault.ServingFault.TheVariants as serving
use Rattle.cs_hub.specs.judgement.Hub.{HubState, fresh}
use Rattle.cs_hub.specs.judgement.Judged.{hub_of}
use Rattle.cs_lines.specs.Served.{AnswersAll}
use Rattle.cs_map_store.specs.Slots.{InMemory, held_by, in_map_store, misreads_of}
use Rattle.cs_store.specs.Contents.{nothing}
use Rattle.cs_value.specs.declared.catalog.TableDef.{TableDef}
use Rattle.sync_cli.specs.Endings.{EndsServing, told_as}
use Rattle.sync_cli.specs.Faults.{of_memory}
use Rattle.sync_cli.specs.Streams.{Streams}
use Rattle.sync_cli.specs.declared.fault.RunFault.TheVariants.{Read, Write}

-- over a store in memory that held nothing, and of which nothing was misread, lines are answered by the log of a new hub
by_log : (tables : List TableDef) (store last : InMemory) (lines answers : List (List ℕ)) → held_by store ≡ nothing → misreads_of store ≡ 0
    → AnsweredOver in_map_store tables store last lines answers
    → (end : HubState) × AnswersAll (Serves MAX_ENTRIES) IsSame (fresh tables) lines answers end
by_log tables store last lines answers bare none over =
    let run = over.by_log (λ s. refl) (omega (arith, none)) tt [] (over.opened.fresh tt bare) in (hub_of tables run.0, run.1)

-- how a run ends whose lines such a hub answered
module _ (tables : List TableDef) (store last : InMemory) (streams : Streams)
    (bare : held_by store ≡ nothing) (none : misreads_of store ≡ 0) where
  abbrev Ended : Result ⊤ ServingFault → Type 0
  Ended ended = EndsServingOn in_map_store tables store last streams.input streams.left streams.read_failed streams.write_failed streams.old streams.new ended

  all_answered : EndsAnswered in_map_store tables store last streams.input streams.old streams.new
      → EndsServing tables streams (Ok tt)
  all_answered (lines, answers, all, over, appends) =
      let run = by_log tables store last lines answers bare none over in (lines, answers, run.0, all, run.1, appends)

  read_stopped : EndsReading in_map_store tables store last streams.input streams.left streams.read_failed streams.old streams.new
      → EndsServing tables streams (Err Read)
  read_stopped (lines, answers, all, over, appends, why) =
      let run = by_log tables store last lines answers bare none over in (lines, answers, run.0, all, run.1, appends, why)

  write_stopped : EndsWriting in_map_store tables store last streams.input streams.write_failed streams.old streams.new
      → EndsServing tables streams (Err Write)
  write_stopped (lines, answers, first, over, broken, failed) =
      let run = by_log tables store last lines answers bare none over in (lines, answers, run.0, first, run.1, broken, failed)

  -- the same by how the hub's run ended
  pub in_memory : (ended : Result ⊤ ServingFault) → Ended ended → EndsServing tables streams (told_as of_memory ended)
  in_memory (Ok done) ends = all_answered ends
  in_memory (Err serving.Read) ends = read_stopped ends
  in_memory (Err serving.Write) ends = write_stopped ends
  in_memory (Err serving.Memory) ends = ends.1
  in_memory (Err (serving.Open why)) ends = ends.1
