-- The laws of which changes are applied and of the blob.
use Rattle.std.specs.Prelude.{◌≡◌, false, List, [], ◌∷◌, ◌++◌, length, Option, None, is_some}
use Rattle.std.specs.List.{list_any}
use Rattle.cs_value.specs.declared.catalog.TableDef.{TableDef}
use Rattle.cs_change.specs.Spelling.{FitsChangeset}
use Rattle.cs_change.specs.declared.group.Group.{Group}
use Rattle.cs_conflict.specs.declared.conflict.Resolution.{Resolution}
use Rattle.cs_blob.specs.Spelling.{FitsBlob, blob_spelling}
use Rattle.cs_tasks.specs.Blob.{answered_group, blob_of}
use Rattle.cs_tasks.specs.Tasks.{table_of, tasks_at}

-- the blob of a changeset as it is read is one that the reader of blobs takes
abbrev pub BlobFits : Type 0
BlobFits =
    (tables : List TableDef) (groups : List Group) (given : List (Option Resolution))
    → FitsChangeset groups
    → FitsBlob (blob_of tables groups given)

-- the blob of a group and of the groups behind it is what the group has of its answers, and then the blob of those
abbrev pub BlobByGroups : Type 0
BlobByGroups =
    (tables : List TableDef) (group : Group) (groups : List Group) (given others : List (Option Resolution))
    → length given ≡ length (tasks_at (table_of group tables) group)
    → blob_spelling (blob_of tables (group ∷ groups) (given ++ others))
    ≡ answered_group group given ++ blob_spelling (blob_of tables groups others)

-- a group of which no conflict was answered has no bytes
abbrev pub UnansweredGroup : Type 0
UnansweredGroup =
    (group : Group) (given : List (Option Resolution)) → list_any is_some given ≡ false → answered_group group given ≡ []

-- a change without a conflict adds none
abbrev pub UnansweredChange : Type 0
UnansweredChange =
    (group : Group) (given : List (Option Resolution)) → answered_group group (given ++ None ∷ []) ≡ answered_group group given
