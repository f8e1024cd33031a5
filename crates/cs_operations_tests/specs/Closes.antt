-- What applying with lawful answers promises of both sides.
use Rattle.std.specs.Prelude.{◌≡◌, List, Option}
use Rattle.cs_value.specs.declared.catalog.TableDef.{TableDef}
use Rattle.cs_normal.specs.Normal.{groups_of}
use Rattle.cs_normal.specs.State.{State, IsStateOf, IsApplied}
use Rattle.cs_normal.specs.declared.normal.TableChanges.{TableChanges}
use Rattle.cs_store.specs.Contents.{Contents}
use Rattle.cs_conflict.specs.declared.conflict.Resolution.{Resolution}
use Rattle.cs_blob.specs.Spelling.{blob_spelling}
use Rattle.cs_tasks.specs.Blob.{blob_of}
use Rattle.cs_store.specs.States.{Holds, AreEdits}
use Rattle.cs_tasks.specs.Tasks.{tasks}
use Rattle.cs_apply.specs.declared.applying.Applied.{Applied}
use Rattle.cs_rebaser.specs.DiamondOfTables.{IsMerged}
use Rattle.cs_rebaser.specs.Rebased.{rebased}

-- the edits lead from what the local changes left to the three-way merge. The local changes, rebased over the blob, lead
-- there from what the remote changes leave
abbrev pub Closes : List TableDef → List TableChanges → List TableChanges → Contents → Applied → Type 0
Closes tables local remote contents applied =
    (base mine theirs : State)
    → IsStateOf tables base
    → Holds tables contents mine
    → IsApplied tables local base mine
    → IsApplied tables remote base theirs
    → (given : List (Option Resolution)) × (merged : State)
    × IsMerged (tasks tables (groups_of remote)) given base mine theirs merged
    × AreEdits tables contents applied.edits merged
    × (applied.blob.items ≡ blob_spelling (blob_of tables (groups_of remote) given))
    × IsApplied tables (rebased (blob_of tables (groups_of remote) given) local) theirs merged
