-- The key of a change, if it is set, and updates that are in normal form already.
use Rattle.std.specs.Prelude.{Bool, true, false, not, ◌||◌, ◌&&◌, List, [], ◌∷◌, if◌then◌else◌}
use Rattle.cs_value.specs.declared.value.Field.{Field}
use Rattle.cs_order.specs.Order.{Keys}
use Rattle.cs_change.specs.Columns.{is_defined}
use Rattle.cs_change.specs.declared.change.Change.{Change}
use Rattle.cs_normal.specs.keyed.NormalForm.{change_bytes, changes_value, has_key}

-- a column of an update in normal form
abbrev pub is_normal_column : Bool → Field → Field → Bool
is_normal_column in_key old new =
    if is_defined new then changes_value in_key old new else (in_key || not (is_defined old))

unfoldable pub normal_columns : List Bool → List Field → List Field → Bool
normal_columns [] [] [] = true
normal_columns (m ∷ marks) (o ∷ old) (n ∷ new) = is_normal_column m o n && normal_columns marks old new
normal_columns _ _ _ = false

-- the key of a change, if none of its values is NULL
abbrev pub key_if_set : List Bool → Change → Keys
key_if_set marks change = if has_key marks change then change_bytes marks change ∷ [] else []
