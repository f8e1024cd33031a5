-- The laws of the program: table words are one catalog, or have one first word that is refused. They say also what some command
-- lines ask for, so that no clause on a run is empty.
use Rattle.std.specs.Prelude.{◌≡◌, ℕ, List, [], ◌∷◌, Some, None, codes}
use Rattle.clap.specs.Words.{Text}
use Rattle.clap.specs.declared.error.kind.ErrorKind.TheVariants as kind
use Rattle.cs_conflict.specs.declared.wish.Wish.TheVariants.{Keep}
use Rattle.cs_tools.specs.declared.show.Shown.TheVariants.{Blob, Changeset}
use Rattle.cs_tools.specs.declared.tool.Form.TheVariants.{Normal, Sqlite}
use Rattle.cs_tools.specs.declared.tool.Tool.TheVariants.{Combine, Rebase, ShowBlob, ShowChangeset}
use Rattle.cs_value.specs.declared.catalog.TableDef.{TableDef}
use Rattle.cs_command.specs.CatalogWords.{IsCatalogOf, IsRefusedAt}
use Rattle.cs_command.specs.CommandLine.{faults_of, file_words_of, table_words_of, wanted_of}
use Rattle.cs_command.specs.Wanted.{CombineFiles, Exchange, Follow, Hub, Node, Run, ShowFile, World}

-- table words are one catalog
abbrev pub OneCatalog : Type 0
OneCatalog = (words : List (List ℕ)) (tables others : List TableDef) → IsCatalogOf words tables
    → IsCatalogOf words others → tables ≡ others

-- they are refused at one place
abbrev pub OneRefusedWord : Type 0
OneRefusedWord = (words : List (List ℕ)) (place other : ℕ) → IsRefusedAt words place
    → IsRefusedAt words other → place ≡ other

-- and nowhere where they are a catalog
abbrev pub NoCatalogRefused : Type 0
NoCatalogRefused = (words : List (List ℕ)) (tables : List TableDef) (place : ℕ) → IsCatalogOf words tables
    → IsRefusedAt words place → ⊥

-- the words of `sync hub t1:10`, and so on
abbrev pub hub_words : List Text
hub_words = codes "sync" ∷ codes "hub" ∷ codes "t1:10" ∷ []

abbrev pub file_words : List Text
file_words = codes "sync" ∷ codes "hub" ∷ codes "--file" ∷ codes "f" ∷ codes "t1:10" ∷ []

abbrev pub world_words : List Text
world_words = codes "sync" ∷ codes "world" ∷ codes "2" ∷ codes "t1:10" ∷ []

abbrev pub node_words : List Text
node_words = codes "sync" ∷ codes "node" ∷ codes "f" ∷ codes "7" ∷ codes "t1:10" ∷ []

abbrev pub follow_words : List Text
follow_words = codes "sync" ∷ codes "node" ∷ codes "--follow" ∷ codes "f" ∷ codes "7" ∷ codes "t1:10" ∷ []

abbrev pub exchange_words : List Text
exchange_words = codes "sync" ∷ codes "exchange" ∷ codes "--keep" ∷ codes "h" ∷ codes "f" ∷ codes "7" ∷ codes "t1:10" ∷ []

abbrev pub exchange_two_words : List Text
exchange_two_words = codes "sync" ∷ codes "exchange" ∷ codes "--keep" ∷ codes "--take" ∷ codes "h" ∷ codes "f" ∷ codes "7" ∷ []

abbrev pub combine_words : List Text
combine_words = codes "sync" ∷ codes "combine" ∷ []

abbrev pub combine_sqlite_words : List Text
combine_sqlite_words = codes "sync" ∷ codes "combine" ∷ codes "--sqlite" ∷ []

abbrev pub combine_file_words : List Text
combine_file_words = codes "sync" ∷ codes "combine" ∷ codes "--file" ∷ codes "f" ∷ codes "--file" ∷ codes "g" ∷ []

abbrev pub rebase_words : List Text
rebase_words = codes "sync" ∷ codes "rebase" ∷ []

abbrev pub rebase_sqlite_words : List Text
rebase_sqlite_words = codes "sync" ∷ codes "rebase" ∷ codes "--sqlite" ∷ []

abbrev pub show_words : List Text
show_words = codes "sync" ∷ codes "show" ∷ codes "changeset" ∷ []

abbrev pub blob_words : List Text
blob_words = codes "sync" ∷ codes "show" ∷ codes "blob" ∷ []

abbrev pub show_file_words : List Text
show_file_words = codes "sync" ∷ codes "show" ∷ codes "changeset" ∷ codes "--file" ∷ codes "f" ∷ []

abbrev pub blob_file_words : List Text
blob_file_words = codes "sync" ∷ codes "show" ∷ codes "blob" ∷ codes "--file" ∷ codes "f" ∷ []

abbrev pub nothing_words : List Text
nothing_words = codes "sync" ∷ codes "show" ∷ codes "nothing" ∷ []

abbrev pub help_words : List Text
help_words = codes "sync" ∷ codes "--help" ∷ []

abbrev pub flag_words : List Text
flag_words = codes "sync" ∷ codes "hub" ∷ codes "--flag" ∷ []

abbrev pub AsksForAHub : Type 0
AsksForAHub = (faults_of hub_words ≡ []) × (wanted_of hub_words ≡ Some (Hub None)) × (table_words_of hub_words ≡ codes "t1:10" ∷ [])

abbrev pub AsksForAFile : Type 0
AsksForAFile =
    (faults_of file_words ≡ []) × (wanted_of file_words ≡ Some (Hub (Some (codes "f"))))
    × (table_words_of file_words ≡ codes "t1:10" ∷ [])

abbrev pub AsksForAWorld : Type 0
AsksForAWorld = (faults_of world_words ≡ []) × (wanted_of world_words ≡ Some (World 2)) × (table_words_of world_words ≡ codes "t1:10" ∷ [])

abbrev pub AsksForANode : Type 0
AsksForANode = (faults_of node_words ≡ []) × (wanted_of node_words ≡ Some (Node (codes "f") 7))
    × (table_words_of node_words ≡ codes "t1:10" ∷ [])

abbrev pub AsksToFollow : Type 0
AsksToFollow = (faults_of follow_words ≡ []) × (wanted_of follow_words ≡ Some (Follow (codes "f") 7))
    × (table_words_of follow_words ≡ codes "t1:10" ∷ [])

abbrev pub AsksToExchange : Type 0
AsksToExchange =
    (faults_of exchange_words ≡ []) × (wanted_of exchange_words ≡ Some (Exchange (codes "h") (codes "f") 7 Keep))
    × (table_words_of exchange_words ≡ codes "t1:10" ∷ [])

abbrev pub AsksForTwoWishes : Type 0
AsksForTwoWishes = (faults_of exchange_two_words ≡ []) × (wanted_of exchange_two_words ≡ None)

abbrev pub AsksToCombine : Type 0
AsksToCombine = (faults_of combine_words ≡ []) × (wanted_of combine_words ≡ Some (Run (Combine Normal)))

abbrev pub AsksToCombineForSqlite : Type 0
AsksToCombineForSqlite =
    (faults_of combine_sqlite_words ≡ []) × (wanted_of combine_sqlite_words ≡ Some (Run (Combine Sqlite)))

abbrev pub AsksToCombineFiles : Type 0
AsksToCombineFiles =
    (faults_of combine_file_words ≡ []) × (wanted_of combine_file_words ≡ Some (CombineFiles Normal))
    × (file_words_of combine_file_words ≡ codes "f" ∷ codes "g" ∷ [])

abbrev pub AsksToRebase : Type 0
AsksToRebase = (faults_of rebase_words ≡ []) × (wanted_of rebase_words ≡ Some (Run (Rebase Normal)))

abbrev pub AsksToRebaseForSqlite : Type 0
AsksToRebaseForSqlite =
    (faults_of rebase_sqlite_words ≡ []) × (wanted_of rebase_sqlite_words ≡ Some (Run (Rebase Sqlite)))

abbrev pub AsksToShow : Type 0
AsksToShow = (faults_of show_words ≡ []) × (wanted_of show_words ≡ Some (Run ShowChangeset))

abbrev pub AsksToShowBlob : Type 0
AsksToShowBlob = (faults_of blob_words ≡ []) × (wanted_of blob_words ≡ Some (Run ShowBlob))

abbrev pub AsksToShowAFile : Type 0
AsksToShowAFile =
    (faults_of show_file_words ≡ []) × (wanted_of show_file_words ≡ Some (ShowFile Changeset (codes "f")))

abbrev pub AsksToShowABlobFile : Type 0
AsksToShowABlobFile =
    (faults_of blob_file_words ≡ []) × (wanted_of blob_file_words ≡ Some (ShowFile Blob (codes "f")))

abbrev pub AsksForNothing : Type 0
AsksForNothing =
    (faults_of nothing_words ≡ []) × (wanted_of nothing_words ≡ None)

abbrev pub AsksForHelp : Type 0
AsksForHelp = faults_of help_words ≡ kind.DisplayHelp ∷ []

abbrev pub IsNotTaken : Type 0
IsNotTaken = faults_of flag_words ≡ kind.UnknownArgument ∷ []
