-- What stands where it was read, or is gathered.
use Rattle.std.specs.Global.{Vec}
use Rattle.std.specs.Prelude.{ℕ, List, [], ◌∷◌, Option, None, Some}
use Rattle.std.specs.List.{range_with_len}
use Rattle.cs_change.specs.declared.change.Change.{Change}

-- these places, or so many as they stand
abbrev pub places_or_all : ℕ → Option (Vec ℕ) → List ℕ
places_or_all count None = range_with_len 0 count
places_or_all count (Some places) = places.items

-- the changes that were gathered, or those of the group where none were
abbrev pub gathered_or : List Change → List Change → List Change
gathered_or group [] = group
gathered_or group (first ∷ others) = first ∷ others
