-- How a run ends that was asked for (profile of this project). No clause says what the file at a path held.
use Rattle.std.specs.Prelude.{◌≡◌, ◌⊎◌, ⊤, ℕ, Bool, List, Option, Some, None, Result, Err}
use Rattle.std.specs.Io.KnownBytes.{Keeps}
use Rattle.cs_node_lines.specs.asks.Reading.{AreAllAsks, IsReadFault}
use Rattle.cs_node_lines.specs.declared.asks.ask.Ask.{Ask}
use Rattle.cs_node_lines.specs.declared.asks.fault.ReadFault.{ReadFault}
use Rattle.cs_command.specs.Wanted.{CombineFiles, Exchange, Follow, Hub, Node, Run, ShowFile, Wanted, World}
use Rattle.cs_conflict.specs.declared.wish.Wish.{Wish}
use Rattle.cs_meeting.specs.Ends.{EndsMeeting}
use Rattle.cs_meeting.specs.declared.fault.MeetingFault.{MeetingFault}
use Rattle.cs_lines.specs.Lines.{ended}
use Rattle.cs_node_lines.specs.following.Endings.{EndsFollowing}
use Rattle.cs_node_lines.specs.hub.Endings.{EndsServingOn}
use Rattle.cs_node_lines.specs.working.Endings.{EndsWorking}
use Rattle.cs_store.specs.declared.fault.StoreFault.{StoreFault}
use Rattle.cs_store.specs.declared.store.RowStore.{Ghosts}
use Rattle.cs_tools.specs.Endings.{Ends}
use Rattle.cs_tools.specs.Files.{CombinesFiles, Reading, RefusesFile, RefusesFiles, ShowsFile}
use Rattle.cs_tools.specs.declared.input_files.InputFiles.{Ghosts as Files}
use Rattle.cs_value.specs.declared.catalog.TableDef.{TableDef}
use Rattle.sync_cli.specs.Endings.{EndsAs, EndsServing, EndsTool, EndsWorld, LacksMemory, OnTables}
use Rattle.sync_cli.specs.Faults.{met_as, of_hub_store, of_node, of_reading, of_serving, of_store, of_tool}
use Rattle.sync_cli.specs.Streams.{Streams}
use Rattle.sync_cli.specs.declared.fault.RunFault.{RunFault}
use Rattle.sync_cli.specs.declared.opener.Opener.{Ghosts as Opening}

-- `opener` opens stores in files
module _ {O S : Type 0} (g : Ghosts S) (o : Opening O S) (opener : O) where
  -- the store that was given for the path was taken back, and the run ended so over it. Or none was given, and nothing was
  -- written
  abbrev pub OverStore : List ℕ → (S → S → Type 0) → Streams → Result ⊤ RunFault → Type 0
  OverStore path Ends streams result =
      ((store : S) × (last : S) × o.gave opener path store × o.took opener last × Ends store last)
      ⊎ ((fault : StoreFault) × o.refused opener path fault × (result ≡ Err (of_store fault)) × Keeps streams.old streams.new)

  -- a hub of these tables over the store answered the lines
  abbrev pub EndsServingFile : List ℕ → List TableDef → Streams → Result ⊤ RunFault → Type 0
  EndsServingFile path tables streams result =
      OverStore path (λ store last. EndsAs of_serving (EndsServingOn g tables store last streams.input streams.left streams.read_failed streams.write_failed streams.old streams.new) result) streams result

  -- over a file or not
  abbrev pub EndsHub : Option (List ℕ) → List TableDef → Streams → Result ⊤ RunFault → Type 0
  EndsHub None tables streams result = EndsServing tables streams result
  EndsHub (Some path) tables streams result =
      EndsServingFile path tables streams result

  -- the input was read whole, and the replica with this id was worked by its lines over the store. Or it wasn't read, and no
  -- store was opened
  abbrev pub EndsNodeFile : List ℕ → ℕ → List TableDef → Streams → Result ⊤ RunFault → Type 0
  EndsNodeFile path id tables streams result =
      ((asks : List Ask) × AreAllAsks tables streams.input asks
      × OverStore path (λ store last. EndsAs of_node (EndsWorking g tables id asks store last streams.write_failed streams.old streams.new) result) streams result)
      ⊎ ((why : ReadFault) × IsReadFault tables streams.read_failed streams.input streams.left why × (result ≡ Err (of_reading why)) × Keeps streams.old streams.new)

  -- the replica with this id over the store answered the lines that a line feed ends, as they came
  abbrev pub EndsFollowFile : List ℕ → ℕ → List TableDef → Streams → Result ⊤ RunFault → Type 0
  EndsFollowFile path id tables streams result =
      OverStore path (λ store last. EndsAs of_node (EndsFollowing g tables id store last (ended streams.input) (ended streams.left) streams.read_failed streams.write_failed streams.old streams.new) result) streams result

  -- the hub and the replica with this id met over the stores that were given for the paths, which were taken back. Or one wasn't
  -- given, and nothing was written
  abbrev pub EndsExchange : List ℕ → List ℕ → ℕ → Wish → List TableDef → Type 0 → Option (List ℕ) → Option (List ℕ) → Result ⊤ RunFault → Type 0
  EndsExchange hub path id wish tables write_failed old new result =
      ((hub_store : S) × (hub_last : S) × (store : S) × (last : S) × o.gave opener hub hub_store × o.gave opener path store
      × o.took opener hub_last × o.took opener last × (told : Result Bool MeetingFault) × (result ≡ met_as told)
      × EndsMeeting g tables id wish hub_store hub_last store last write_failed old new told)
      ⊎ (((fault : StoreFault) × o.refused opener hub fault × (result ≡ Err (of_hub_store fault)) × Keeps old new)
      ⊎ ((fault : StoreFault) × (hub_store : S) × o.gave opener hub hub_store × o.took opener hub_store × o.refused opener path fault
      × (result ≡ Err (of_store fault)) × Keeps old new))

-- and files to be read
module _ {O S I : Type 0} (g : Ghosts S) (o : Opening O S) (reads : Reading I) (files : Files O I) (opener : O) where
  -- what the command line wants was done over the tables that its words spell, or the files that they name
  abbrev pub EndsWanted : Wanted → List (List ℕ) → List (List ℕ) → Streams → Result ⊤ RunFault → Type 0
  EndsWanted (Hub file) words paths streams result =
      OnTables words (λ tables. EndsHub g o opener file tables streams result) streams result
  EndsWanted (World count) words paths streams result =
      OnTables words (λ tables. EndsWorld count tables streams result) streams result
  EndsWanted (Node path id) words paths streams result =
      OnTables words (λ tables. EndsNodeFile g o opener path id tables streams result) streams result
  EndsWanted (Follow path id) words paths streams result =
      OnTables words (λ tables. EndsFollowFile g o opener path id tables streams result) streams result
  EndsWanted (Exchange hub path id wish) words paths streams result =
      OnTables words (λ tables. EndsExchange g o opener hub path id wish tables streams.write_failed streams.old streams.new result) streams result
  EndsWanted (Run tool) words paths streams result =
      EndsTool tool streams result
  EndsWanted (ShowFile shown path) words paths streams result =
      EndsAs of_tool (Ends (ShowsFile reads files opener shown path) (RefusesFile reads files opener shown path) streams.write_failed streams.old streams.new) result
  EndsWanted (CombineFiles form) words paths streams result =
      EndsAs of_tool (Ends (CombinesFiles reads files opener form paths) (RefusesFiles reads files opener form paths) streams.write_failed streams.old streams.new) result

  -- or memory was refused before
  abbrev pub EndsAsked : Wanted → List (List ℕ) → List (List ℕ) → Streams → Result ⊤ RunFault → Type 0
  EndsAsked wanted words paths streams result =
      LacksMemory streams result ⊎ EndsWanted wanted words paths streams result
