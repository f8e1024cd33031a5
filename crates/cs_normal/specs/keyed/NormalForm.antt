-- The normal form of changes as read: of one change, and of the changes of one table.
use Rattle.std.specs.Prelude.{◌≡◌, ℕ, Bool, true, false, not, ◌&&◌, ◌||◌, List, [], ◌∷◌, map, Option, Some, None, Contains, ◌↔◌, if◌then◌else◌}
use Rattle.std.specs.List.{list_all, IsDistinct}
use Rattle.cs_value.specs.declared.value.Value.{Value}
use Rattle.cs_value.specs.declared.value.Value.TheVariants.{Null}
use Rattle.cs_value.specs.declared.value.Field.{Field}
use Rattle.cs_value.specs.declared.value.Field.TheVariants.{Undefined, Is}
use Rattle.cs_value.specs.Catalog.{marked, is_set}
use Rattle.cs_change.specs.Columns.{is_defined, is_blank}
use Rattle.cs_change.specs.Then.{is_idle}
use Rattle.cs_change.specs.declared.change.Change.{Change}
use Rattle.cs_change.specs.declared.change.Change.TheVariants.{Insert, Delete, Update}
use Rattle.cs_order.specs.Order.{same_bytes}
use Rattle.cs_normal.specs.keyed.Changes.{Changes, key_bytes, IsOrdered}

-- the value of a key column in an old record
abbrev pub value_or_null : Field → Value
value_or_null Undefined = Null
value_or_null (Is v) = v

-- the values at the key columns of the fields
unfoldable pub marked_fields : List Bool → List Field → List Value
marked_fields (m ∷ marks) (f ∷ fields) =
    if m then value_or_null f ∷ marked_fields marks fields else marked_fields marks fields
marked_fields _ _ = []

-- the key of a change as read
abbrev pub change_key : List Bool → Change → List Value
change_key marks (Insert flag new) = marked marks new
change_key marks (Delete flag old) = marked marks old
change_key marks (Update flag old new) = marked_fields marks old

-- the key of whatever is read is the same by these marks as by those
abbrev pub HaveSameKeys : List Bool → List Bool → Type 0
HaveSameKeys front marks =
    ((row : List Value) → marked front row ≡ marked marks row)
    × ((fields : List Field) → marked_fields front fields ≡ marked_fields marks fields)

-- a column that is modified and gets another value
abbrev pub changes_value : Bool → Field → Field → Bool
changes_value in_key old new = not in_key && (is_defined new && not (is_idle old new))

-- the old record keeps the key and what gets another value
abbrev pub normal_old : Bool → Field → Field → Field
normal_old in_key old new = if in_key || changes_value in_key old new then old else Undefined

abbrev pub normal_new : Bool → Field → Field → Field
normal_new in_key old new = if changes_value in_key old new then new else Undefined

unfoldable pub normal_olds : List Bool → List Field → List Field → List Field
normal_olds (m ∷ marks) (o ∷ old) (n ∷ new) = normal_old m o n ∷ normal_olds marks old new
normal_olds _ _ _ = []

unfoldable pub normal_news : List Bool → List Field → List Field → List Field
normal_news (m ∷ marks) (o ∷ old) (n ∷ new) = normal_new m o n ∷ normal_news marks old new
normal_news _ _ _ = []

abbrev pub update_unless_blank : Bool → List Field → List Field → Option Change
update_unless_blank flag old new = if is_blank new then None else Some (Update flag old new)

-- the change in normal form; None: an update that changes nothing
unfoldable pub normal_form : List Bool → Change → Option Change
normal_form marks (Insert flag new) = Some (Insert flag new)
normal_form marks (Delete flag old) = Some (Delete flag old)
normal_form marks (Update flag old new) =
    update_unless_blank flag (normal_olds marks old new) (normal_news marks old new)

-- the same where there may be no change
abbrev pub normal_form_any : List Bool → Option Change → Option Change
normal_form_any marks None = None
normal_form_any marks (Some change) = normal_form marks change

-- no value of its key is NULL
abbrev pub has_key : List Bool → Change → Bool
has_key marks change = list_all is_set (change_key marks change)

-- the bytes of a change's key
abbrev pub change_bytes : List Bool → Change → List ℕ
change_bytes marks change = key_bytes (change_key marks change)

-- the changes behind the bytes of their keys
abbrev pub keyed : List Bool → List Change → Changes
keyed marks changes = map (λ change. (change_bytes marks change, change)) changes

-- each change has a key of its own without NULL
abbrev pub AreKeyed : List Bool → List Change → Type 0
AreKeyed marks changes =
    (list_all (has_key marks) changes ≡ true) × IsDistinct same_bytes (map (change_bytes marks) changes)

-- these are the changes as read in normal form, of which each has a key of its own. In the order of the keys' bytes
-- there stands behind a key the normal form of the change read with it, and nothing else
pub record IsNormalOf (marks : List Bool) (changes : List Change) (form : Changes) : Type 0 where
  pub keyed : AreKeyed marks changes
  pub ordered : IsOrdered form
  pub each : (key : List ℕ) (change : Change) → Contains form (key, change)
      ↔ ((read : Change) × Contains changes read × (change_bytes marks read ≡ key) × (normal_form marks read ≡ Some change))
