-- Edits of places.
use Rattle.std.specs.Prelude.{ℕ, List, Option}

-- a table's number, the bytes of a key, and those of the body that stands there then, or none
pub record BodyEdit : Type 0 where
  pub table : ℕ
  pub key : List ℕ
  pub body : Option (List ℕ)
