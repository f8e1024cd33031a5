-- A table as a word of the command line: `NAME:MARKS`.
use Rattle.std.specs.Prelude.{◌≡◌, ℕ, Bool, true, false, List, ◌∷◌, ◌++◌, map, Some}
use Rattle.cs_value.specs.declared.catalog.TableDef.{TableDef}
use Rattle.cs_text.specs.parse.Texts.{text_in}

-- `1` for a key column and `0` for another
abbrev pub mark_digit : Bool → ℕ
mark_digit true = 49
mark_digit false = 48

-- the name, with escapes, a colon, and a digit a column
pub record SpellsTable (word : List ℕ) (table : TableDef) : Type 0 where
  pub text : List ℕ
  pub split : word ≡ text ++ 58 ∷ map mark_digit table.key_marks
  pub named : text_in text ≡ Some table.name
