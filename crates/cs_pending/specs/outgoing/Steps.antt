-- What the code has put on its way: no definition that a public clause cites.
use Rattle.std.specs.Prelude.{◌≡◌, ◌+◌, ◌++◌, ℕ, List, [], ◌∷◌, map, IsUtf8}
use Rattle.std.specs.List.{flat_map}
use Rattle.cs_value.specs.declared.catalog.TableDef.{TableDef}
use Rattle.cs_change.specs.Spelling.{flag_byte, header_spelling}
use Rattle.cs_store.specs.Contents.{Contents, IsListing, stored_pending}

-- a header and the changes as they are listed, if there are some
abbrev pub listing_spelling : TableDef → List (List ℕ × List ℕ) → List ℕ
listing_spelling table [] = []
listing_spelling table (first ∷ others) =
    header_spelling (map flag_byte table.key_marks) table.name ++ flat_map (λ row. row.1) (first ∷ others)

-- the pending changes of tables, of which the first has this number, table by table
abbrev pub ArePut : Contents → ℕ → List TableDef → List ℕ → Type 0
ArePut contents number [] bytes = bytes ≡ []
ArePut contents number (table ∷ tables) bytes =
    (rows : List (List ℕ × List ℕ)) × (others : List ℕ) × IsListing (stored_pending contents number) rows × IsUtf8 table.name
    × (bytes ≡ listing_spelling table rows ++ others) × ArePut contents (number + 1) tables others

-- the listing of a table was appended
abbrev pub IsTablePut : Contents → ℕ → TableDef → List ℕ → List ℕ → Type 0
IsTablePut contents number table old new =
    (rows : List (List ℕ × List ℕ)) × IsListing (stored_pending contents number) rows × IsUtf8 table.name
    × (new ≡ old ++ listing_spelling table rows)

-- those of tables were
abbrev pub AreAppended : Contents → ℕ → List TableDef → List ℕ → List ℕ → Type 0
AreAppended contents number tables old new = (bytes : List ℕ) × (new ≡ old ++ bytes) × ArePut contents number tables bytes
