-- What a batch makes of the contents of a store.
use Rattle.std.specs.declared.alloc.Global.{Global}
use Rattle.std.specs.Prelude.{Vec, option_map, map, ℕ, ℤ, pos, Bool, true, false, List, Option, Some, None, fold}
use Rattle.std.specs.FinMap.{insert, remove, len}
use Rattle.cs_store.specs.edits.Edits.{BodyEdit}
use Rattle.cs_store.specs.declared.batch.MetaEdit.{MetaEdit}
use Rattle.cs_store.specs.declared.batch.StoredEntry.{StoredEntry}
use Rattle.cs_store.specs.declared.batch.Batch.{Batch}
use Rattle.cs_store.specs.declared.store.StoredBody.{StoredBody}
use Rattle.cs_store.specs.Contents.{StorePlace, Bodies, Meta, Log, LogItem, Contents, name_text}

-- the bytes that are there, or none
abbrev pub optional_bytes : Option (Vec ℕ Global) → Option (List ℕ)
optional_bytes = option_map (λ bytes. bytes.items)

-- what is there where a flag says so, else none
abbrev pub if_there : Bool → List ℕ → Option (List ℕ)
if_there true bytes = Some bytes
if_there false bytes = None

-- an entry that is handed in or out, as the log has it
abbrev pub item_of : StoredEntry → LogItem
item_of entry = record { origin = pos entry.origin; number = entry.number; body = entry.body.items }

-- the entry that is there, or none
abbrev pub optional_entry : Option StoredEntry → Option LogItem
optional_entry = option_map item_of

-- the entries of a list
abbrev pub items_of : List StoredEntry → List LogItem
items_of = map item_of

-- the keys and the bodies of a list
abbrev pub pairs_of : List StoredBody → List (List ℕ × List ℕ)
pairs_of = map (λ stored. (stored.key.items, stored.body.items))

-- a body is set, or with none removed
abbrev pub with_body : Bodies → StorePlace → Option (List ℕ) → Bodies
with_body bodies place None = remove bodies place
with_body bodies place (Some body) = insert bodies place body

-- a value is set, or with none removed
abbrev pub with_meta : Meta → List ℕ → Option (List ℕ) → Meta
with_meta meta name None = remove meta name
with_meta meta name (Some value) = insert meta name value

-- where an edit is
abbrev pub store_place : BodyEdit → StorePlace
store_place edit = (pos edit.table, edit.key)

abbrev pub edit_body : Bodies → BodyEdit → Bodies
edit_body bodies edit = with_body bodies (store_place edit) edit.body

abbrev pub edit_meta : Meta → MetaEdit → Meta
edit_meta meta edit = with_meta meta (name_text edit.name) (optional_bytes edit.value)

-- an entry, if there is one, is set at a version
abbrev pub with_entry : ℤ → Log → Option LogItem → Log
with_entry version log None = log
with_entry version log (Some entry) = insert log version entry

-- a new entry's version is how many entries there are
abbrev pub appended : Log → Option LogItem → Log
appended log entry = with_entry (pos (len log)) log entry

-- the edits in order, and the new entry of the log
abbrev pub after_batch : Batch → Contents → Contents
after_batch batch contents = record {
  rows = fold edit_body contents.rows batch.rows;
  pending = fold edit_body contents.pending batch.pending;
  meta = fold edit_meta contents.meta batch.meta.items;
  log = appended contents.log (optional_entry batch.log);
}
