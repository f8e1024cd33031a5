-- What a dump prints of a replica: where it stands, and its rows (format of this project).
use Rattle.std.specs.Prelude.{◌≡◌, ◌-◌, ◌^◌, ℕ, List, [], ◌∷◌, ◌++◌, Option, Some, None, codes, flat_map, min}
use Rattle.std.specs.Fmt.{decimal}
use Rattle.cs_normal.specs.Normal.{count_of}
use Rattle.cs_normal.specs.State.{State}
use Rattle.cs_normal.specs.declared.normal.TableChanges.{TableChanges}
use Rattle.cs_pending.specs.declared.position.position.Position.{Position}
use Rattle.cs_pending.specs.rows.Rows.{AreRowsOf}
use Rattle.cs_text.specs.Text.{line}
use Rattle.cs_value.specs.declared.catalog.TableDef.{TableDef}
use Rattle.cs_value.specs.declared.value.Value.{Value}
use Rattle.cs_node_lines.specs.told.Told.{place_text, row_text}

-- how many changes a push has that is under way; 0 where none is
abbrev pub flight_count : Option (List TableChanges) → ℕ
flight_count (Some changes) = min (count_of changes) (2 ^ 64 - 1)
flight_count None = 0

-- `replica ID` and where it stands, of the replica with this id
abbrev pub numbered_text : ℕ → List ℕ → List ℕ
numbered_text id place = codes "replica " ++ (decimal id ++ (codes " " ++ place))

abbrev pub replica_text : ℕ → Position → List ℕ
replica_text id position = numbered_text id (place_text position.version position.pending (flight_count position.flight))

-- a line for each row of the table with this name; each row stands behind the bytes of its key
abbrev pub rows_text : List ℕ → List (List ℕ × List Value) → List ℕ
rows_text table rows = flat_map (λ row. line (row_text table row.1)) rows

-- the lines of the rows of tables, table by table, each in the order of the bytes of its keys
abbrev pub AreRowLines : List TableDef → State → List ℕ → Type 0
AreRowLines [] state text = text ≡ []
AreRowLines (table ∷ tables) state text =
    (rows : List (List ℕ × List Value)) × (rest : List ℕ)
    × AreRowsOf (state table.name) rows × AreRowLines tables state rest × (text ≡ rows_text table.name rows ++ rest)

-- these lines stand behind a text
abbrev pub PutsRows : List TableDef → State → List ℕ → List ℕ → Type 0
PutsRows tables state before after = (rows : List ℕ) × AreRowLines tables state rows × (after ≡ before ++ rows)
