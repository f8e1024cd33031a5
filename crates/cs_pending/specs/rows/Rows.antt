-- The rows of a table as a list.
use Rattle.std.specs.Prelude.{◌≡◌, ℕ, List, T}
use Rattle.std.specs.FinMap.{find, is_sorted}
use Rattle.cs_order.specs.Order.{by_bytes}
use Rattle.cs_value.specs.Key.{Place}
use Rattle.cs_value.specs.declared.value.Value.{Value}

-- the bytes of the keys rise, and what is found at a key is the row that stands there, or none
pub record AreRowsOf (held : List ℕ → Place) (rows : List (List ℕ × List Value)) : Type 0 where
  pub rises : T (is_sorted by_bytes rows)
  pub found : (key : List ℕ) → find by_bytes key rows ≡ held key

-- what stands at the places of a table is one list of rows
abbrev pub OneTableOfRows : Type 0
OneTableOfRows =
    (held : List ℕ → Place) (some others : List (List ℕ × List Value))
    → AreRowsOf held some → AreRowsOf held others → some ≡ others
