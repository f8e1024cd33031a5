-- The lines that only look at a replica, beside `dump` (profile of this project).
use Rattle.std.specs.Prelude.{ℕ, if◌then◌else◌, List, [], ◌∷◌, Option, Some, None, option_map, codes}
use Rattle.std.specs.Str.{bytes_eq}
use Rattle.cs_value.specs.declared.value.Value.{Value}
use Rattle.cs_text.specs.parse.Texts.{text_in}
use Rattle.cs_text.specs.parse.Values.{values_in}
use Rattle.cs_text.specs.parse.Words.{words_in}
use Rattle.cs_node_lines.specs.asks.Asked.{alone}
use Rattle.cs_node_lines.specs.declared.asks.look.Look.{Look}
use Rattle.cs_node_lines.specs.declared.asks.look.Look.TheVariants.{Pending, Place, Row, Rows, Tables}

-- T, behind `rows`
abbrev pub rows_in : List (List ℕ) → Option Look
rows_in [] = None
rows_in (name ∷ []) = option_map Rows (text_in name)
rows_in (name ∷ word ∷ words) = None

-- a row, where its table and its key are there
abbrev pub row_with : Option (List ℕ) → Option (List Value) → Option Look
row_with (Some table) key = option_map (Row table) key
row_with None key = None

-- T KEYVALUES, behind `row`
abbrev pub row_in : List (List ℕ) → Option Look
row_in [] = None
row_in (name ∷ words) = row_with (text_in name) (values_in words)

-- what a verb and the words behind it ask
abbrev pub look_by : List ℕ → List (List ℕ) → Option Look
look_by verb words =
    if bytes_eq verb (codes "place") then alone Place words
    else if bytes_eq verb (codes "tables") then alone Tables words
    else if bytes_eq verb (codes "rows") then rows_in words
    else if bytes_eq verb (codes "row") then row_in words
    else if bytes_eq verb (codes "pending") then alone Pending words
    else None

abbrev pub words_look : List (List ℕ) → Option Look
words_look [] = None
words_look (verb ∷ words) = look_by verb words

-- what a line asks to be shown: `place`, `tables`, `rows T`, `row T KEYVALUES` or `pending`; none where it asks nothing such
abbrev pub look_in : List ℕ → Option Look
look_in line = words_look (words_in line)
