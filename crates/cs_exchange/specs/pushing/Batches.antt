-- What the commits of pushes write: no definition that a public clause cites.
use Rattle.std.specs.Prelude.{◌≡◌, ◌+◌, ℕ, List, [], ◌∷◌, ◌++◌, map, Option, Some, None}
use Rattle.std.specs.Map.{keys_of}
use Rattle.cs_normal.specs.Normal.{changes_in}
use Rattle.cs_normal.specs.declared.normal.TableChanges.{TableChanges}
use Rattle.cs_pending.specs.position.Values.{ValuePart, flight_bytes, value_part}
use Rattle.cs_store.specs.declared.batch.Batch.{Batch}
use Rattle.cs_store.specs.edits.Edits.{BodyEdit}
use Rattle.cs_store.specs.declared.names.MetaName.TheVariants.{Flight, Number, Version}
use Rattle.cs_value.specs.declared.catalog.TableDef.{TableDef}
use Rattle.cs_wire.specs.Numbers.{eight_bytes}

-- an edit of a place: the table's number, the bytes of the key, and the body or none
abbrev pub PlacePart : Type 0
PlacePart = ℕ × (List ℕ × Option (List ℕ))

abbrev pub place_part : BodyEdit → PlacePart
place_part edit = (edit.table, (edit.key, edit.body))

-- a place of a table is cleared
abbrev pub clears : ℕ → List ℕ → PlacePart
clears number key = (number, (key, None))

-- the places of a changeset in tables, of which the first has this number, are cleared
abbrev pub all_clear : ℕ → List TableDef → List TableChanges → List PlacePart
all_clear number [] changes = []
all_clear number (table ∷ tables) changes =
    map (clears number) (keys_of (changes_in table.name changes)) ++ all_clear (number + 1) tables changes

-- these places of pending changes and these values are written, no row, and no log
pub record WritesValues (cleared : List PlacePart) (edits : List ValuePart) (batch : Batch) : Type 0 where
  pub rows : batch.rows ≡ []
  pub pending : map place_part batch.pending ≡ cleared
  pub values : map value_part batch.meta.items ≡ edits
  pub log : batch.log ≡ None

-- the values of a push with a number
abbrev pub push_values : ℕ → List TableChanges → List ValuePart
push_values number changes = (Number, Some (eight_bytes number)) ∷ (Flight, Some (flight_bytes number changes)) ∷ []

-- the values where a push has become the entry before a version
abbrev pub confirm_values : ℕ → List ValuePart
confirm_values version = (Version, Some (eight_bytes version)) ∷ (Flight, None) ∷ []
