-- Edits as words.
use Rattle.std.specs.Prelude.{◌≡◌, ℕ, Bool, true, false, if◌then◌else◌, List, [], ◌∷◌, ◌++◌, Option, Some, None, option_map, codes}
use Rattle.std.specs.Str.{bytes_eq}
use Rattle.cs_value.specs.declared.catalog.TableDef.{TableDef}
use Rattle.cs_value.specs.declared.edit.Edit.{Edit}
use Rattle.cs_value.specs.declared.edit.Edit.TheVariants.{Insert, Update, Delete}
use Rattle.cs_value.specs.declared.value.Value.{Value}
use Rattle.cs_value.specs.declared.value.Field.{Field}
use Rattle.cs_value.specs.declared.value.Field.TheVariants.{Undefined}
use Rattle.cs_text.specs.parse.Texts.{text_in}
use Rattle.cs_text.specs.parse.Values.{field_in, value_in, values_in}

-- the key marks of the first table with this name; none where no table has it
abbrev pub marks_of : List TableDef → List ℕ → List Bool
marks_of [] name = []
marks_of (table ∷ tables) name = if bytes_eq table.name name then table.key_marks else marks_of tables name

-- what the word at a column spells: at a key column a value of the key, at another a field
abbrev pub column_in : Bool → List ℕ → Option (List Value × Field)
column_in true word = option_map (λ value. (value ∷ [], Undefined)) (value_in word)
column_in false word = option_map (λ field. ([], field)) (field_in word)

-- a column in front of others
abbrev pub column_onto : Option (List Value × Field) → Option (List Value × List Field) → Option (List Value × List Field)
column_onto (Some one) (Some more) = Some (one.0 ++ more.0, one.1 ∷ more.1)
column_onto (Some one) None = None
column_onto None more = None

-- the key and the fields that words spell, column by column; past the marks no column is a key column
abbrev pub columns_in : List Bool → List (List ℕ) → Option (List Value × List Field)
columns_in marks [] = Some ([], [])
columns_in [] (word ∷ words) = column_onto (column_in false word) (columns_in [] words)
columns_in (mark ∷ marks) (word ∷ words) = column_onto (column_in mark word) (columns_in marks words)

-- a column stands behind the key and the fields that were there, or it spells nothing
abbrev pub PutsColumn : Bool → Option (List Value × Field) → List Value → List Value → List Field → List Field → Type 0
PutsColumn true column key new_key fields new_fields =
    (one : List Value × Field) × (column ≡ Some one) × (new_key ≡ key ++ one.0) × (new_fields ≡ fields ++ one.1 ∷ [])
PutsColumn false column key new_key fields new_fields = column ≡ None

-- the edit of this table, by the verb
abbrev pub edit_of : List TableDef → List ℕ → List ℕ → List (List ℕ) → Option Edit
edit_of tables verb table words =
    if bytes_eq verb (codes "insert") then option_map (λ row. Insert table row) (values_in words)
    else if bytes_eq verb (codes "update") then option_map (λ found. Update table found.0 found.1) (columns_in (marks_of tables table) words)
    else if bytes_eq verb (codes "delete") then option_map (λ key. Delete table key) (values_in words)
    else None

-- the edit of the table that a word names, if it names one
abbrev pub named_edit : List TableDef → List ℕ → Option (List ℕ) → List (List ℕ) → Option Edit
named_edit tables verb (Some table) words = edit_of tables verb table words
named_edit tables verb None words = None

-- `insert T VALUES`, `update T FIELDS` or `delete T KEYVALUES`
abbrev pub edit_in : List TableDef → List (List ℕ) → Option Edit
edit_in tables [] = None
edit_in tables (verb ∷ []) = None
edit_in tables (verb ∷ name ∷ words) = named_edit tables verb (text_in name) words
