-- The values that a store keeps of a replica.
use Rattle.std.specs.Prelude.{ℕ, List, ◌++◌, map, option_map, Option, Some, None}
use Rattle.std.specs.List.{flat_map}
use Rattle.cs_value.specs.declared.catalog.TableDef.{TableDef}
use Rattle.cs_change.specs.Spelling.{flag_byte, header_spelling}
use Rattle.cs_normal.specs.Normal.{normal_spelling}
use Rattle.cs_normal.specs.declared.normal.TableChanges.{TableChanges}
use Rattle.cs_store.specs.Written.{optional_bytes}
use Rattle.cs_store.specs.declared.batch.MetaEdit.{MetaEdit}
use Rattle.cs_store.specs.declared.names.MetaName.{MetaName}
use Rattle.cs_store.specs.declared.names.MetaName.TheVariants.{Id, Version, Number, Flight, Pending, Catalog}
use Rattle.cs_wire.specs.Numbers.{eight_bytes, four_bytes}
use Rattle.cs_pending.specs.declared.position.position.Position.{Position}

-- the number of a push, and its changeset
abbrev pub flight_bytes : ℕ → List TableChanges → List ℕ
flight_bytes number changes = eight_bytes number ++ normal_spelling changes

-- the header of each table
abbrev pub catalog_bytes : List TableDef → List ℕ
catalog_bytes tables = flat_map (λ table. header_spelling (map flag_byte table.key_marks) table.name) tables

-- the value of each name, or none; pending changes stand at their places, and are no value
abbrev pub value_of : List TableDef → Position → MetaName → Option (List ℕ)
value_of tables position Id = Some (four_bytes position.id)
value_of tables position Version = Some (eight_bytes position.version)
value_of tables position Number = Some (eight_bytes position.number)
value_of tables position Flight = option_map (flight_bytes position.number) position.flight
value_of tables position Pending = None
value_of tables position Catalog = Some (catalog_bytes tables)

-- an edit of a value
abbrev pub ValuePart : Type 0
ValuePart = MetaName × Option (List ℕ)

abbrev pub value_part : MetaEdit → ValuePart
value_part edit = (edit.name, optional_bytes edit.value)
