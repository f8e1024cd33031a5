-- The command line of `sync`, as the parser sees it, and what it asks for.
use Rattle.std.specs.Prelude.{ℕ, ◌^◌, ◌-◌, nat_lt, Bool, true, false, List, [], Option, Some, None, option_map, option_and_then, unwrap_or, if◌then◌else◌, codes}
use Rattle.std.specs.Str.{bytes_eq}
use Rattle.std.specs.Str.Parse.{without_leading_plus}
use Rattle.clap.specs.Faults.{fault_of}
use Rattle.clap.specs.Kinds.{Kinds}
use Rattle.clap.specs.Words.{App, Row, Rule, Text, all_of, first_of, new_app, new_rule, one_of, subcommand_of, with_rule, with_subcommand}
use Rattle.clap.specs.declared.builder.action.ArgAction.TheVariants.{Append, SetTrue}
use Rattle.clap.specs.declared.builder.value_parser.ValueParser.TheVariants.{Unsigned}
use Rattle.cs_conflict.specs.declared.wish.Wish.{Wish}
use Rattle.cs_conflict.specs.declared.wish.Wish.TheVariants.{Keep, Stop, Take}
use Rattle.cs_tools.specs.declared.show.Shown.TheVariants.{Blob, Changeset}
use Rattle.cs_tools.specs.declared.tool.Form.{Form}
use Rattle.cs_tools.specs.declared.tool.Form.TheVariants.{Normal, Sqlite}
use Rattle.cs_tools.specs.declared.tool.Tool.{Tool}
use Rattle.cs_tools.specs.declared.tool.Tool.TheVariants.{Combine, Rebase, ShowBlob, ShowChangeset}
use Rattle.cs_text.specs.parse.Numbers.{small_in}
use Rattle.cs_command.specs.Wanted.{Wanted, Hub, World, Node, Follow, Exchange, Run, ShowFile, CombineFiles}

-- ---- what the parser takes

-- `TABLE...`, which may be left out
abbrev pub table_rule : Rule
table_rule = record (new_rule (codes "TABLE")) { action = Some Append }

-- `--file FILE`, which may be left out
abbrev pub file_option : Rule
file_option = record (new_rule (codes "FILE")) { long = Some (codes "file") }

abbrev pub hub_app : App
hub_app = with_rule (with_rule (new_app (codes "hub")) file_option) table_rule

-- `N`, which must be there
abbrev pub count_rule : Rule
count_rule = record (new_rule (codes "N")) { required = true; parser = Some (Unsigned 0 (2 ^ 32 - 1)) }

abbrev pub world_app : App
world_app = with_rule (with_rule (new_app (codes "world")) count_rule) table_rule

-- `FILE`, which must be there
abbrev pub file_rule : Rule
file_rule = record (new_rule (codes "FILE")) { required = true }

-- `ID`, which must be there
abbrev pub id_rule : Rule
id_rule = record (new_rule (codes "ID")) { required = true; parser = Some (Unsigned 0 (2 ^ 32 - 2)) }

-- `--NAME`, a flag
abbrev pub flag_rule : Text → Rule
flag_rule name = record (new_rule name) {
  long = Some name;
  action = Some SetTrue;
}

-- `node` before its words
abbrev pub bare_node_app : App
bare_node_app = with_rule (new_app (codes "node")) (flag_rule (codes "follow"))

abbrev pub node_app : App
node_app = with_rule (with_rule (with_rule bare_node_app file_rule) id_rule) table_rule

-- `HUB`, which must be there
abbrev pub hub_rule : Rule
hub_rule = record (new_rule (codes "HUB")) { required = true }

-- `exchange` before its words, and before those of the replica
abbrev pub bare_exchange_app : App
bare_exchange_app =
    with_rule (with_rule (with_rule (new_app (codes "exchange")) (flag_rule (codes "keep"))) (flag_rule (codes "take"))) (flag_rule (codes "stop"))

abbrev pub exchange_app : App
exchange_app = with_rule (with_rule (with_rule (with_rule bare_exchange_app hub_rule) file_rule) id_rule) table_rule

-- `WHAT`, which must be there
abbrev pub what_rule : Rule
what_rule = record (new_rule (codes "WHAT")) { required = true }

abbrev pub show_app : App
show_app = with_rule (with_rule (new_app (codes "show")) what_rule) file_option

-- `--file FILE`, so often as there are files
abbrev pub files_option : Rule
files_option = record (new_rule (codes "FILE")) {
  long = Some (codes "file");
  action = Some Append;
}

abbrev pub combine_app : App
combine_app = with_rule (with_rule (new_app (codes "combine")) (flag_rule (codes "sqlite"))) files_option

abbrev pub rebase_app : App
rebase_app = with_rule (new_app (codes "rebase")) (flag_rule (codes "sqlite"))

-- the commands that sync, and the tools with them
abbrev pub syncing_app : App
syncing_app =
    with_subcommand (with_subcommand (with_subcommand (with_subcommand (new_app (codes "sync")) hub_app.top) node_app.top) exchange_app.top) world_app.top

abbrev pub sync_app : App
sync_app =
    with_subcommand (with_subcommand (with_subcommand syncing_app show_app.top) combine_app.top) rebase_app.top

-- the kinds of which the parser's refusal of a command line may be; none where it takes it
abbrev pub faults_of : List Text → Kinds
faults_of words = fault_of sync_app words

-- ---- what is asked for

-- the words of a subcommand with this id
abbrev pub words_in : Text → Option (Text × List Row) → List Text
words_in id None = []
words_in id (Some found) = unwrap_or (all_of id found.1) []

-- its table words
abbrev pub tables_in : Option (Text × List Row) → List Text
tables_in found = words_in (codes "TABLE") found

-- its files
abbrev pub files_in : Option (Text × List Row) → List Text
files_in found = words_in (codes "FILE") found

-- the table words of a whole command line
abbrev pub table_words_of : List Text → List Text
table_words_of words = tables_in (subcommand_of sync_app words)

-- the files that it names
abbrev pub file_words_of : List Text → List Text
file_words_of words = files_in (subcommand_of sync_app words)

-- a number of 32 bits in decimal digits, behind a plus or not, as the parser's readers of numbers take it
abbrev pub number_in : Text → Option ℕ
number_in word = small_in (without_leading_plus word)

-- the number that the word with this id spells
abbrev pub number_at : Text → List Row → Option ℕ
number_at id rows = option_and_then number_in (first_of id rows)

-- the id of a replica, which the largest number of 32 bits isn't
abbrev pub id_among : ℕ → Option ℕ
id_among number = if nat_lt number (2 ^ 32 - 1) then Some number else None

abbrev pub id_at : List Row → Option ℕ
id_at rows = option_and_then id_among (number_at (codes "ID") rows)

-- the flag with this id is given: its value is "true" then, else "false"
abbrev pub is_given : Text → List Row → Bool
is_given id rows = bytes_eq (unwrap_or (one_of id rows) []) (codes "true")

-- a replica over a file, which answers each line as it comes or reads all first
abbrev pub node_of : Bool → Text → ℕ → Wanted
node_of true file id = Follow file id
node_of false file id = Node file id

abbrev pub node_with : Bool → Option Text → Option ℕ → Option Wanted
node_with follows (Some file) (Some id) = Some (node_of follows file id)
node_with follows _ _ = None

-- what the words of `node` ask for
abbrev pub node_wanted : List Row → Option Wanted
node_wanted rows = node_with (is_given (codes "follow") rows) (first_of (codes "FILE") rows) (id_at rows)

-- what is wished at each clash: to stop, where no flag says another thing; none where two flags do
abbrev pub wish_by : Bool → Bool → Bool → Option Wish
wish_by true false false = Some Keep
wish_by false true false = Some Take
wish_by false false stops = Some Stop
wish_by true true stops = None
wish_by true false true = None
wish_by false true true = None

abbrev pub wish_in : List Row → Option Wish
wish_in rows = wish_by (is_given (codes "keep") rows) (is_given (codes "take") rows) (is_given (codes "stop") rows)

abbrev pub exchange_with : Option Wish → Option Text → Option Text → Option ℕ → Option Wanted
exchange_with (Some wish) (Some hub) (Some file) (Some id) = Some (Exchange hub file id wish)
exchange_with _ _ _ _ = None

-- what the words of `exchange` ask for
abbrev pub exchange_wanted : List Row → Option Wanted
exchange_wanted rows = exchange_with (wish_in rows) (first_of (codes "HUB") rows) (first_of (codes "FILE") rows) (id_at rows)

-- what `show` is to show
abbrev pub tool_of_what : Option Text → Option Tool
tool_of_what None = None
tool_of_what (Some what) =
    if bytes_eq what (codes "changeset") then Some ShowChangeset
    else if bytes_eq what (codes "blob") then Some ShowBlob
    else None

-- the tool that the words of `show` ask for
abbrev pub shown_tool : List Row → Option Tool
shown_tool rows = tool_of_what (first_of (codes "WHAT") rows)

-- the form that the words of `combine` or `rebase` ask for
abbrev pub form_of : List Row → Form
form_of rows = if is_given (codes "sqlite") rows then Sqlite else Normal

-- the tool that a subcommand and its words ask for
abbrev pub tool_by : Text → List Row → Option Tool
tool_by name rows =
    if bytes_eq name (codes "combine") then Some (Combine (form_of rows))
    else if bytes_eq name (codes "rebase") then Some (Rebase (form_of rows))
    else if bytes_eq name (codes "show") then shown_tool rows
    else None

-- a tool, over the lines of the input, or over files where one is named
abbrev pub over_file : Option Text → Tool → Option Wanted
over_file None tool = Some (Run tool)
over_file (Some file) (Combine form) = Some (CombineFiles form)
over_file (Some file) (Rebase form) = None
over_file (Some file) ShowChangeset = Some (ShowFile Changeset file)
over_file (Some file) ShowBlob = Some (ShowFile Blob file)

-- what a subcommand and its words ask for
abbrev pub wanted_by : Text → List Row → Option Wanted
wanted_by name rows =
    if bytes_eq name (codes "hub") then Some (Hub (first_of (codes "FILE") rows))
    else if bytes_eq name (codes "world") then option_map World (number_at (codes "N") rows)
    else if bytes_eq name (codes "node") then node_wanted rows
    else if bytes_eq name (codes "exchange") then exchange_wanted rows
    else option_and_then (over_file (first_of (codes "FILE") rows)) (tool_by name rows)

abbrev pub wanted_in : Option (Text × List Row) → Option Wanted
wanted_in None = None
wanted_in (Some found) = wanted_by found.0 found.1

-- what a whole command line asks for
abbrev pub wanted_of : List Text → Option Wanted
wanted_of words = wanted_in (subcommand_of sync_app words)
