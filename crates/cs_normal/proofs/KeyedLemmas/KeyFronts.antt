-- The marks up to the last key column: each change has the same key by them.
use Rattle.std.proofs.Common.{◌≡◌, Bool, true, false, List, [], ◌∷◌, ◌++◌, refl, sym, ap, ◌∙◌}
use Rattle.std.specs.Prelude.{if◌then◌else◌}
use Rattle.std.specs.List.{list_all}
use Rattle.cs_value.specs.Catalog.{is_set, marked}
use Rattle.cs_value.specs.declared.value.Field.{Field}
use Rattle.cs_value.specs.declared.value.Value.{Value}
use Rattle.cs_change.specs.declared.change.Change.{Change}
use Rattle.cs_change.specs.declared.change.Change.TheVariants.{Insert, Delete, Update}
use Rattle.cs_normal.specs.keyed.Changes.{key_bytes}
use Rattle.cs_normal.specs.keyed.NormalForm.{HaveSameKeys, change_key, has_key, marked_fields, value_or_null}
use Rattle.cs_normal.specs.keyed.Steps.Forms.{key_if_set}

marked_front : (front : List Bool) (row : List Value) → marked (front ++ false ∷ []) row ≡ marked front row
marked_front [] [] = refl
marked_front [] (v ∷ row) = refl
marked_front (m ∷ front) [] = refl
marked_front (true ∷ front) (v ∷ row) = ap (λ (vs : List Value). v ∷ vs) (marked_front front row)
marked_front (false ∷ front) (v ∷ row) = marked_front front row

fields_front : (front : List Bool) (fields : List Field) → marked_fields (front ++ false ∷ []) fields ≡ marked_fields front fields
unfolding marked_fields
fields_front [] [] = refl
fields_front [] (f ∷ fields) = refl
fields_front (m ∷ front) [] = refl
fields_front (true ∷ front) (f ∷ fields) = ap (λ (vs : List Value). value_or_null f ∷ vs) (fields_front front fields)
fields_front (false ∷ front) (f ∷ fields) = fields_front front fields

-- a column that is in no key is left out at the end
pub shorter_front : (front marks : List Bool) → HaveSameKeys (front ++ false ∷ []) marks → HaveSameKeys front marks
shorter_front front marks same =
    (λ row. sym (marked_front front row) ∙ same.0 row, λ fields. sym (fields_front front fields) ∙ same.1 fields)

-- a change has the same key
same_key : (front marks : List Bool) (change : Change) → HaveSameKeys front marks → change_key front change ≡ change_key marks change
same_key front marks (Insert flag new) same = same.0 new
same_key front marks (Delete flag old) same = same.0 old
same_key front marks (Update flag old new) same = same.1 old

-- the same key is set alike, and has the same bytes
pub set_alike : (front marks : List Bool) (change : Change) → HaveSameKeys front marks → has_key front change ≡ has_key marks change
set_alike front marks change same = ap (list_all is_set) (same_key front marks change same)

pub key_alike : (front marks : List Bool) (change : Change) → HaveSameKeys front marks → key_if_set front change ≡ key_if_set marks change
key_alike front marks change same =
    ap (λ (key : List Value). if list_all is_set key then key_bytes key ∷ [] else []) (same_key front marks change same)
