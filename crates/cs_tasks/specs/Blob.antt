-- The rebase blob that applying leaves: an entry for each conflict that was answered (SQLite's "Session Extension",
-- rebasing).
use Rattle.std.specs.Prelude.{ℕ, Bool, false, true, List, [], ◌∷◌, ◌++◌, length, map, take, drop, Option, Some, None, if◌then◌else◌}
use Rattle.cs_value.specs.declared.value.Field.{Field}
use Rattle.cs_value.specs.declared.value.Field.TheVariants.{Is}
use Rattle.cs_value.specs.declared.catalog.TableDef.{TableDef}
use Rattle.cs_change.specs.Action.{Action, Inserts, Deletes, Updates, action, is_delete}
use Rattle.cs_change.specs.Spelling.{marks_of}
use Rattle.cs_change.specs.declared.change.Change.{Change}
use Rattle.cs_change.specs.declared.group.Group.{Group}
use Rattle.cs_conflict.specs.declared.conflict.Resolution.{Resolution}
use Rattle.cs_conflict.specs.declared.conflict.Resolution.TheVariants.{Replace}
use Rattle.cs_blob.specs.Spelling.{blob_spelling}
use Rattle.cs_blob.specs.declared.blob.Entry.{Entry}
use Rattle.cs_blob.specs.declared.blob.BlobGroup.{BlobGroup}
use Rattle.cs_tasks.specs.Tasks.{table_of, tasks_at}

-- the new record of an UPDATE, with the key filled in from the old one
unfoldable pub keyed_new : List Bool → List Field → List Field → List Field
keyed_new (m ∷ marks) (o ∷ old) (n ∷ new) = (if m then o else n) ∷ keyed_new marks old new
keyed_new _ _ _ = []

-- the record of an entry: the row that the remote change put or took, or the new record of an UPDATE
abbrev pub entry_fields : List Bool → Action → List Field
entry_fields marks (Inserts new) = map Is new
entry_fields marks (Deletes old) = map Is old
entry_fields marks (Updates old new) = keyed_new marks old new

abbrev pub is_replace : Resolution → Bool
is_replace Replace = true
is_replace _ = false

-- the entry of a conflict that was answered OMIT or REPLACE
abbrev pub entry_of : List Bool → Resolution → Action → Entry
entry_of marks answer change =
    record { deleted = is_delete change; replaced = is_replace answer; fields = entry_fields marks change }

-- the entries of changes, of which each had this answer or no conflict
unfoldable pub entries_of : List Bool → List Change → List (Option Resolution) → List Entry
entries_of marks (change ∷ changes) (None ∷ given) = entries_of marks changes given
entries_of marks (change ∷ changes) (Some answer ∷ given) =
    entry_of marks answer (action change) ∷ entries_of marks changes given
entries_of marks _ _ = []

-- a group with the column bytes and the name of the changeset's, if there are entries
abbrev pub group_if_any : Group → List Entry → List BlobGroup
group_if_any group [] = []
group_if_any group (first ∷ others) =
    record { marks = group.marks; name = group.name; entries = first ∷ others } ∷ []

-- how a group is spelled of whose changes, as far as they go, each had this answer or no conflict
abbrev pub answered_group : Group → List (Option Resolution) → List ℕ
answered_group group given = blob_spelling (group_if_any group (entries_of (marks_of group.marks) group.changes given))

-- the blob of the groups, where the changes of those that fit had these answers
unfoldable pub blob_of : List TableDef → List Group → List (Option Resolution) → List BlobGroup
blob_of tables [] given = []
blob_of tables (group ∷ groups) given =
    let count = length (tasks_at (table_of group tables) group) in
    group_if_any group (entries_of (marks_of group.marks) group.changes (take count given))
    ++ blob_of tables groups (drop count given)

-- the blob of the answers so far, and whether the header of the group at hand is among its bytes
pub record BlobSoFar : Type 0 where
  pub bytes : List ℕ
  pub headed : Bool
