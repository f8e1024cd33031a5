-- What the code has put on its way: no definition that a public clause cites.
use Rattle.std.specs.Prelude.{◌≡◌, ◌≢◌, ℕ, Bool, List, [], ◌∷◌, Some, None, ◌++◌, map, is_some}
use Rattle.std.specs.List.{AllByRecursion}
use Rattle.cs_change.specs.Spelling.{FitsChange, change_spelling, delete_byte, flag_byte, insert_byte, update_byte}
use Rattle.cs_change.specs.declared.change.Change.{Change}
use Rattle.cs_change.specs.declared.change.Change.TheVariants.{Insert, Delete, Update}
use Rattle.cs_record.specs.Spelling.{record_of, row_bytes}
use Rattle.cs_store.specs.Written.{pairs_of}
use Rattle.cs_store.specs.declared.store.StoredBody.{StoredBody}
use Rattle.cs_store.specs.edits.Edits.{BodyEdit}

-- the edits of a table that set a body at each key, made of what stands behind the key
abbrev pub edits_of : {A : Type 0} → (A → List ℕ) → ℕ → List (List ℕ × A) → List BodyEdit
edits_of body number rows = map (λ row. record { table = number; key = row.0; body = Some (body row.1) }) rows

-- bytes behind a body
abbrev pub padded : List ℕ → List ℕ → List ℕ
padded more body = body ++ more

-- those that put bytes behind each body
abbrev pub padded_edits : ℕ → List ℕ → List (List ℕ × List ℕ) → List BodyEdit
padded_edits number more rows = edits_of (padded more) number rows

-- these bytes behind the row of a change, or those behind each record of an UPDATE
abbrev pub padded_change : List ℕ → List ℕ → Change → List ℕ
padded_change nulls undefined (Insert flag new) = insert_byte ∷ flag_byte flag ∷ (row_bytes new ++ nulls)
padded_change nulls undefined (Delete flag old) = delete_byte ∷ flag_byte flag ∷ (row_bytes old ++ nulls)
padded_change nulls undefined (Update flag old new) =
    update_byte ∷ flag_byte flag ∷ ((record_of old ++ undefined) ++ (record_of new ++ undefined))

-- a change behind its key, in its bytes
abbrev pub spelled : List ℕ × Change → List ℕ × List ℕ
spelled keyed = (keyed.0, change_spelling keyed.1)

-- the bodies are changes of a table with these key columns, and the edits put these bytes behind their records
abbrev pub ArePadded : List Bool → List ℕ → List ℕ → ℕ → List StoredBody → List BodyEdit → Type 0
ArePadded marks nulls undefined number listed edits =
    (changes : List (List ℕ × Change)) × (map spelled changes ≡ pairs_of listed)
    × (edits ≡ edits_of (padded_change nulls undefined) number changes)
    × AllByRecursion (λ (keyed : List ℕ × Change). FitsChange marks keyed.1) changes

-- a body is a change of a table with these key columns
abbrev pub IsChangeBody : List Bool → StoredBody → Type 0
IsChangeBody marks stored = (change : Change) × FitsChange marks change × (stored.body.items ≡ change_spelling change)

-- an edit of a pending change, once the table with this number, of these key columns, has more columns: these bytes stand behind
-- the records of the change. An edit of another table is the same, and one that clears a place
pub record IsPaddedEdit (marks : List Bool) (nulls undefined : List ℕ) (number : ℕ) (edit wide : BodyEdit) : Type 0 where
  pub table : wide.table ≡ edit.table
  pub key : wide.key ≡ edit.key
  pub other : edit.table ≢ number → wide.body ≡ edit.body
  pub clears : edit.body ≡ None → wide.body ≡ None
  pub sets : is_some wide.body ≡ is_some edit.body
  pub padded : (change : Change) → edit.table ≡ number → FitsChange marks change → edit.body ≡ Some (change_spelling change)
      → wide.body ≡ Some (padded_change nulls undefined change)

-- one for each
abbrev pub ArePaddedEdits : List Bool → List ℕ → List ℕ → ℕ → List BodyEdit → List BodyEdit → Type 0
ArePaddedEdits marks nulls undefined number [] [] = Unit {0}
ArePaddedEdits marks nulls undefined number (edit ∷ edits) (wide ∷ wides) =
    IsPaddedEdit marks nulls undefined number edit wide × ArePaddedEdits marks nulls undefined number edits wides
ArePaddedEdits marks nulls undefined number [] (wide ∷ wides) = ⊥
ArePaddedEdits marks nulls undefined number (edit ∷ edits) [] = ⊥

-- they stand behind others
abbrev pub ArePaddedBehind : List Bool → List ℕ → List ℕ → ℕ → List BodyEdit → List BodyEdit → List BodyEdit → Type 0
ArePaddedBehind marks nulls undefined number edits old new =
    (wides : List BodyEdit) × (new ≡ old ++ wides) × ArePaddedEdits marks nulls undefined number edits wides
