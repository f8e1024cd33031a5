-- A wider table that is asked for, whose name a request can hold (profile of this project).
use Rattle.std.specs.Prelude.{◌<◌, ◌^◌, ℕ, List, length}

-- on the tables of the first entries, as many as its base, the table is to have so many columns; who asks gave it the number
pub record Wider : Type 0 where
  pub number : ℕ
  pub base : ℕ
  pub table : List ℕ
  pub width : ℕ

-- the table's name has as many bytes as a request can hold
abbrev pub HasShortName : List ℕ → Type 0
HasShortName name = length name < 2 ^ 32
