-- Changesets and rebase blobs as text, for people (format of this project).
use Rattle.std.specs.Prelude.{ℕ, ◌/◌, ◌%◌, ◌==◌, ◌&&◌, nat_le, not, Bool, true, false, if◌then◌else◌, List, [], ◌∷◌, ◌++◌, codes}
use Rattle.std.specs.List.{flat_map}
use Rattle.std.specs.Fmt.{digit_glyph, signed_decimal}
use Rattle.cs_value.specs.declared.catalog.TableDef.{TableDef}
use Rattle.cs_value.specs.declared.value.Value.{Value}
use Rattle.cs_value.specs.declared.value.Value.TheVariants.{Null, Int, Text, Blob}
use Rattle.cs_value.specs.declared.value.Field.{Field}
use Rattle.cs_value.specs.declared.value.Field.TheVariants.{Undefined, Is}
use Rattle.cs_change.specs.declared.change.Change.{Change}
use Rattle.cs_change.specs.declared.change.Change.TheVariants.{Insert, Delete, Update}
use Rattle.cs_change.specs.declared.group.Group.{Group}
use Rattle.cs_blob.specs.declared.blob.Entry.{Entry}
use Rattle.cs_blob.specs.declared.blob.BlobGroup.{BlobGroup}
use Rattle.cs_change.specs.Spelling.{is_nonzero}

-- a byte that stands for itself in a text: from `!` to `~`, and not `%`
abbrev pub is_plain : ℕ → Bool
is_plain byte = nat_le 0x21 byte && nat_le byte 0x7e && not (byte == 0x25)

-- a byte as two hex digits, the high one first, with `A` to `F`
abbrev pub upper_hex : ℕ → List ℕ
upper_hex byte = digit_glyph true (byte / 16) ∷ digit_glyph true (byte % 16) ∷ []

-- the same with `a` to `f`
abbrev pub lower_hex : ℕ → List ℕ
lower_hex byte = digit_glyph false (byte / 16) ∷ digit_glyph false (byte % 16) ∷ []

-- a plain byte as itself, and another as `%` and two upper case hex digits
abbrev pub escaped : ℕ → List ℕ
escaped byte = if is_plain byte then byte ∷ [] else 0x25 ∷ upper_hex byte

abbrev pub escaped_text : List ℕ → List ℕ
escaped_text text = flat_map escaped text

-- bytes in lower case hex
abbrev pub hex_text : List ℕ → List ℕ
hex_text bytes = flat_map lower_hex bytes

-- a table's name
abbrev pub name_text : List ℕ → List ℕ
name_text name = escaped_text name

-- `null`, a decimal number, `t=` and a text, or `x=` and bytes
abbrev pub value_text : Value → List ℕ
value_text Null = codes "null"
value_text (Int number) = signed_decimal number
value_text (Text text) = codes "t=" ++ escaped_text text
value_text (Blob bytes) = codes "x=" ++ hex_text bytes

-- `-`, or a value
abbrev pub field_text : Field → List ℕ
field_text Undefined = codes "-"
field_text (Is value) = value_text value

-- a word behind a space
abbrev pub spaced : List ℕ → List ℕ
spaced word = codes " " ++ word

abbrev pub values_text : List Value → List ℕ
values_text values = flat_map (λ value. spaced (value_text value)) values

abbrev pub fields_text : List Field → List ℕ
fields_text fields = flat_map (λ field. spaced (field_text field)) fields

-- `1` or `0`
abbrev pub bit_text : Bool → List ℕ
bit_text true = codes "1"
bit_text false = codes "0"

-- a digit a column: 1 for a key column
abbrev pub marks_text : List ℕ → List ℕ
marks_text marks = flat_map (λ mark. bit_text (is_nonzero mark)) marks

-- the word of an operation, and 1 for an indirect change
abbrev pub operation_text : List ℕ → Bool → List ℕ
operation_text word flag = word ++ spaced (bit_text flag)

-- `insert FLAG VALUES`, `delete FLAG VALUES` or `update FLAG OLD > NEW`
abbrev pub change_text : Change → List ℕ
change_text (Insert flag new) = operation_text (codes "insert") flag ++ values_text new
change_text (Delete flag old) = operation_text (codes "delete") flag ++ values_text old
change_text (Update flag old new) =
    operation_text (codes "update") flag ++ fields_text old ++ codes " >" ++ fields_text new

-- a text ended by a line feed
abbrev pub line : List ℕ → List ℕ
line text = text ++ codes "\n"

-- `table NAME MARKS`
abbrev pub header_text : List ℕ → List ℕ → List ℕ
header_text marks name = codes "table " ++ name_text name ++ spaced (marks_text marks)

-- a table, with a digit a column, and a line for each of several
abbrev pub table_text : TableDef → List ℕ
table_text table = codes "table " ++ name_text table.name ++ spaced (flat_map bit_text table.key_marks)

abbrev pub tables_text : List TableDef → List ℕ
tables_text tables = flat_map (λ table. line (table_text table)) tables

abbrev pub changes_text : List Change → List ℕ
changes_text changes = flat_map (λ change. line (change_text change)) changes

-- a line for the table, and one for each of its changes
abbrev pub group_text : Group → List ℕ
group_text group = line (header_text group.marks group.name) ++ changes_text group.changes

abbrev pub changeset_text : List Group → List ℕ
changeset_text groups = flat_map group_text groups

-- ---- rebase blobs

-- what the remote change was: `delete`, or `change` for an INSERT or an UPDATE
abbrev pub remote_text : Bool → List ℕ
remote_text deleted = if deleted then codes "delete" else codes "change"

-- how the conflict was answered
abbrev pub answer_text : Bool → List ℕ
answer_text replaced = if replaced then codes "replace" else codes "omit"

-- `change omit FIELDS`, `change replace FIELDS`, `delete omit FIELDS` or `delete replace FIELDS`
abbrev pub entry_text : Entry → List ℕ
entry_text entry = remote_text entry.deleted ++ spaced (answer_text entry.replaced) ++ fields_text entry.fields

abbrev pub entries_text : List Entry → List ℕ
entries_text entries = flat_map (λ entry. line (entry_text entry)) entries

-- a line for the table, and one for each of its entries
abbrev pub blob_group_text : BlobGroup → List ℕ
blob_group_text group = line (header_text group.marks group.name) ++ entries_text group.entries

abbrev pub blob_text : List BlobGroup → List ℕ
blob_text groups = flat_map blob_group_text groups
