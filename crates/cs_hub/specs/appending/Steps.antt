-- What trying an entry comes to.
use Rattle.std.specs.Prelude.{◌≡◌, List, [], Some}
use Rattle.cs_value.specs.declared.catalog.TableDef.{TableDef}
use Rattle.cs_normal.specs.State.{State, IsApplied, IsDefinedOn}
use Rattle.cs_normal.specs.declared.normal.TableChanges.{TableChanges}
use Rattle.cs_store.specs.log.Log.{IsMade, catalog_after}
use Rattle.cs_store.specs.declared.log.body.Body.{Body}
use Rattle.cs_store.specs.declared.log.entry.LogEntry.{LogEntry}
use Rattle.cs_store.specs.Contents.{Contents}
use Rattle.cs_store.specs.States.{AreEdits}
use Rattle.cs_store.specs.Written.{optional_entry}
use Rattle.cs_store.specs.declared.batch.Batch.{Batch}
use Rattle.cs_store.specs.edits.Edits.{BodyEdit}
use Rattle.cs_hub.specs.log_store.Shows.{item_of_entry}
use Rattle.cs_hub.specs.appending.Appended.{IsFirstConflict}
use Rattle.cs_hub.specs.declared.appending.fault.AppendFault.{AppendFault}
use Rattle.cs_hub.specs.declared.appending.fault.AppendFault.TheVariants.{Memory, Conflict as OnConflict, Device}

-- the changeset is defined, and the edits lead to what it leaves
abbrev pub IsTried : List TableDef → List TableChanges → Contents → State → List BodyEdit → Type 0
IsTried tables changes contents before edits =
    (after : State) × IsApplied tables changes before after × AreEdits tables contents edits after

-- what an entry does is made of the rows, and the edits lead to what it leaves. These are edits of the tables behind it
abbrev pub IsMadeBy : List TableDef → Body → Contents → State → List BodyEdit → Type 0
IsMadeBy tables body contents before edits =
    (after : State) × IsMade tables body before after × AreEdits (catalog_after tables body) contents edits after

-- it isn't defined, and this is the first conflict
abbrev pub IsNotTried : List TableDef → List TableChanges → State → AppendFault → Type 0
IsNotTried tables changes before Memory = Unit {0}
IsNotTried tables changes before (OnConflict conflict) =
    (IsDefinedOn tables changes before → ⊥) × IsFirstConflict tables changes before conflict
IsNotTried tables changes before Device = Unit {0}

-- the batch writes these edits of rows and this entry, and nothing else
pub record IsBatchOf (entry : LogEntry) (edits : List BodyEdit) (batch : Batch) : Type 0 where
  pub rows : batch.rows ≡ edits
  pub pending : batch.pending ≡ []
  pub meta : batch.meta.items ≡ []
  pub log : optional_entry batch.log ≡ Some (item_of_entry entry)
