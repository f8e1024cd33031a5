-- A table's changes in normal form: a sorted map from the bytes of a key to the change of that key.
use Rattle.std.specs.Prelude.{◌≡◌, ℕ, Bool, true, List, Option}
use Rattle.std.specs.List.{list_all, All, AllByRecursion}
use Rattle.std.specs.List.Sorted.{IsStrictlySortedBy}
use Rattle.std.specs.Map.{keys_of, lookup}
use Rattle.cs_order.specs.Order.{by_bytes, same_bytes}
use Rattle.cs_value.specs.declared.value.Value.{Value}
use Rattle.cs_value.specs.declared.value.Field.TheVariants.{Is}
use Rattle.cs_value.specs.Catalog.{is_set}
use Rattle.cs_record.specs.Spelling.{row_bytes, Fits}
use Rattle.cs_change.specs.Action.{action}
use Rattle.cs_change.specs.Normal.{IsNormal}
use Rattle.cs_change.specs.Spelling.{FitsChange}
use Rattle.cs_change.specs.declared.change.Change.{Change}

-- the record of a key
abbrev pub key_bytes : List Value → List ℕ
key_bytes key = row_bytes key

-- a key whose values have spellings
abbrev pub IsSpelled : List Value → Type 0
IsSpelled key = AllByRecursion (λ v. Fits (Is v)) key

-- changes with the bytes of their keys
abbrev pub Changes : Type 0
Changes = List (List ℕ × Change)

-- the change of the key that has these bytes
abbrev pub change_at : List ℕ → Changes → Option Change
change_at key changes = lookup (same_bytes key) changes

-- each key once, in the order of their bytes
abbrev pub IsOrdered : Changes → Type 0
IsOrdered changes = IsStrictlySortedBy by_bytes (keys_of changes)

-- a normal change, in range, beside the bytes of its key, of which no value is NULL
pub record IsEntry (marks : List Bool) (entry : List ℕ × Change) : Type 0 where
  pub key : List Value
  pub set : list_all is_set key ≡ true
  pub bytes : entry.0 ≡ key_bytes key
  pub normal : IsNormal marks key (action entry.1)
  pub fits : FitsChange marks entry.1

-- the changes of one table in normal form
abbrev pub AreNormal : List Bool → Changes → Type 0
AreNormal marks changes = IsOrdered changes × All (IsEntry marks) changes
