-- How a run ends: all was done, or why not; and the status of each (profile of this project).
use Rattle.std.specs.Prelude.{◌≡◌, ◌≢◌, ◌⊎◌, ⊤, ℕ, List, Option, Result, Ok, Err, length, flat_map}
use Rattle.std.specs.Io.KnownBytes.{Appends, Keeps}
use Rattle.clap.specs.Kinds.{IsAmong, Kinds}
use Rattle.clap.specs.declared.error.kind.ErrorKind.{ErrorKind}
use Rattle.clap.specs.declared.error.kind.ErrorKind.TheVariants as kind
use Rattle.cs_command.specs.CatalogWords.{IsCatalogOf, IsFirstRefused}
use Rattle.cs_command.specs.declared.table.TableFault.{TableFault}
use Rattle.cs_hub.specs.Serves.{IsSame, Serves}
use Rattle.cs_store.specs.declared.log.entry.TheConstants.{MAX_ENTRIES}
use Rattle.cs_hub.specs.judgement.Hub.{HubState, fresh}
use Rattle.cs_lines.specs.Lines.{hex_line}
use Rattle.cs_lines.specs.Reading.{AreAllBefore}
use Rattle.cs_lines.specs.Served.{AnswersAll, AreAllLines, AreFirstLines}
use Rattle.cs_lines.specs.Writing.{AppendsBroken}
use Rattle.cs_lines.specs.declared.serve.TheConstants.{ASKS}
use Rattle.cs_script.specs.Endings.{EndsScript}
use Rattle.cs_tools.specs.Endings.{Ends, Owes, Refuses}
use Rattle.cs_tools.specs.declared.tool.Tool.{Tool}
use Rattle.cs_value.specs.declared.catalog.TableDef.{TableDef}
use Rattle.sync_cli.specs.Faults.{of_script, of_table, of_tool}
use Rattle.sync_cli.specs.Streams.{Streams}
use Rattle.sync_cli.specs.declared.fault.RunFault.{RunFault}
use Rattle.sync_cli.specs.declared.fault.RunFault.TheVariants.{CommandLine, Table, Memory, Read, Write}

-- the status of an end: 0 where all was done. It is 1 where the input or memory was refused or a read or write failed, 2 where
-- the command line was
abbrev pub status_of : Result ⊤ RunFault → ℕ
status_of (Ok done) = 0
status_of (Err CommandLine) = 2
status_of (Err (Table word)) = 2
status_of (Err _) = 1

-- a part of the run's end, with its faults told as these
abbrev pub told_as : {F : Type 0} → (F → RunFault) → Result ⊤ F → Result ⊤ RunFault
told_as told (Ok done) = Ok done
told_as told (Err fault) = Err (told fault)

-- a part of the run ended so
abbrev pub EndsAs : {F : Type 0} → (F → RunFault) → (Result ⊤ F → Type 0) → Result ⊤ RunFault → Type 0
EndsAs {F} told Ends result = (ended : Result ⊤ F) × (result ≡ told_as told ended) × Ends ended

-- the table words are a catalog, and the run ended so over its tables; or they are refused, and nothing was written
abbrev pub OnTables : List (List ℕ) → (List TableDef → Type 0) → Streams → Result ⊤ RunFault → Type 0
OnTables words Ends streams result =
    ((tables : List TableDef) × IsCatalogOf words tables × Ends tables)
    ⊎ ((fault : TableFault) × IsFirstRefused fault words × (result ≡ Err (of_table fault)) × Keeps streams.old streams.new)

-- want of memory, before anything was written
abbrev pub LacksMemory : Streams → Result ⊤ RunFault → Type 0
LacksMemory streams result = (result ≡ Err Memory) × Keeps streams.old streams.new

-- a tool ended so: it wrote what it owes, or told why it owes nothing, or was broken off
abbrev pub EndsTool : Tool → Streams → Result ⊤ RunFault → Type 0
EndsTool tool streams result =
    EndsAs of_tool (Ends (Owes tool streams.input streams.left) (Refuses tool streams.read_failed streams.input streams.left) streams.write_failed streams.old streams.new) result

-- a new hub of these tables answered all lines. Or it answered those before the one at which a read failed, or lines without end.
-- Or a write failed within the last answer, or memory was refused before it read
abbrev pub EndsServing : List TableDef → Streams → Result ⊤ RunFault → Type 0
EndsServing tables streams (Ok done) =
    (lines : List (List ℕ)) × (answers : List (List ℕ)) × (end : HubState)
    × AreAllLines streams.input lines × AnswersAll (Serves MAX_ENTRIES) IsSame (fresh tables) lines answers end
    × Appends streams.old streams.new (flat_map hex_line answers)
EndsServing tables streams (Err Memory) = Keeps streams.old streams.new
EndsServing tables streams (Err Read) =
    (lines : List (List ℕ)) × (answers : List (List ℕ)) × (end : HubState)
    × AreAllBefore streams.input streams.left lines × AnswersAll (Serves MAX_ENTRIES) IsSame (fresh tables) lines answers end
    × Appends streams.old streams.new (flat_map hex_line answers) × (streams.read_failed ⊎ (length lines ≡ ASKS))
EndsServing tables streams (Err Write) =
    (lines : List (List ℕ)) × (answers : List (List ℕ)) × (end : HubState)
    × AreFirstLines streams.input lines × AnswersAll (Serves MAX_ENTRIES) IsSame (fresh tables) lines answers end
    × AppendsBroken streams.old streams.new answers × streams.write_failed
EndsServing tables streams (Err _) = ⊥

-- a world of so many replicas ran the script
abbrev pub EndsWorld : ℕ → List TableDef → Streams → Result ⊤ RunFault → Type 0
EndsWorld count tables streams result =
    EndsAs of_script (EndsScript tables count streams.input streams.left streams.read_failed streams.write_failed streams.old streams.new) result

-- words that the command line doesn't take. Help was asked for and written, or a front of it, where the writer failed. Or the
-- words were refused, for one of the parser's reasons, or memory was
abbrev pub EndsUntaken : Kinds → Streams → Result ⊤ RunFault → Type 0
EndsUntaken kinds streams (Ok done) = IsAmong kind.DisplayHelp kinds × ((help : List ℕ) × Appends streams.old streams.new help)
EndsUntaken kinds streams (Err Write) =
    IsAmong kind.DisplayHelp kinds × streams.write_failed × ((front : List ℕ) × Appends streams.old streams.new front)
EndsUntaken kinds streams (Err CommandLine) =
    ((why : ErrorKind) × IsAmong why kinds × (why ≢ kind.DisplayHelp)) × Keeps streams.old streams.new
EndsUntaken kinds streams (Err Memory) = Keeps streams.old streams.new
EndsUntaken kinds streams (Err _) = ⊥

-- words that ask for nothing: refused, or memory was wanting
abbrev pub EndsUnasked : Streams → Result ⊤ RunFault → Type 0
EndsUnasked streams result = ((result ≡ Err CommandLine) ⊎ (result ≡ Err Memory)) × Keeps streams.old streams.new

-- ---- on the way to the end of words that aren't taken; no public clause cites these

-- help was written; or a front of it, where the writer failed; or memory was wanting
abbrev pub EndsHelping : Type 0 → Option (List ℕ) → Option (List ℕ) → Result ⊤ RunFault → Type 0
EndsHelping failed old new (Ok done) = (help : List ℕ) × Appends old new help
EndsHelping failed old new (Err Write) = failed × ((front : List ℕ) × Appends old new front)
EndsHelping failed old new (Err Memory) = Keeps old new
EndsHelping failed old new (Err _) = ⊥

-- a refusal by the parser for this reason: help where it was asked for; else it is told, want of memory as such
abbrev pub EndsRefused : ErrorKind → Type 0 → Option (List ℕ) → Option (List ℕ) → Result ⊤ RunFault → Type 0
EndsRefused why failed old new (Err CommandLine) =
    (why ≢ kind.DisplayHelp) × (why ≢ kind.OutOfMemory) × Keeps old new
EndsRefused why failed old new (Err Memory) = ((why ≡ kind.DisplayHelp) ⊎ (why ≡ kind.OutOfMemory)) × Keeps old new
EndsRefused why failed old new result = (why ≡ kind.DisplayHelp) × EndsHelping failed old new result
