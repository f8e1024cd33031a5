-- Entries of a log taken together (profile of this project).
use Rattle.std.specs.Prelude.{◌≤◌, List, length, map}
use Rattle.cs_value.specs.declared.catalog.TableDef.{TableDef}
use Rattle.cs_group.specs.Tables.{AreJoined}
use Rattle.cs_normal.specs.Normal.{normal_spelling}
use Rattle.cs_normal.specs.declared.normal.TableChanges.{TableChanges}
use Rattle.cs_store.specs.log.Entry.{entry_changes}
use Rattle.cs_store.specs.log.Stored.{AreChangesOf}
use Rattle.cs_store.specs.declared.log.entry.LogEntry.{LogEntry}
use Rattle.cs_store.specs.declared.log.entry.TheConstants.{MAX_CHANGESET}

-- changesets of the tables, taken together in their order, are this one
pub record AreOne (tables : List TableDef) (list : List (List TableChanges)) (changes : List TableChanges) : Type 0 where
  pub of_tables : AreChangesOf tables changes
  pub joined : AreJoined tables list changes

-- what these entries do, taken together in their order, is this changeset
abbrev pub IsConsolidated : List TableDef → List LogEntry → List TableChanges → Type 0
IsConsolidated tables entries changes = AreOne tables (map entry_changes entries) changes

-- a changeset has at most as many bytes as an entry's may have
abbrev pub IsShort : List TableChanges → Type 0
IsShort changes = length (normal_spelling changes) ≤ MAX_CHANGESET

-- changesets are together as short as one may be
abbrev pub AreShort : List TableDef → List (List TableChanges) → Type 0
AreShort tables list = (changes : List TableChanges) × AreOne tables list changes × IsShort changes
