-- Edits in pieces of memory: their bytes, and where each stands.
use Rattle.std.specs.Prelude.{◌<◌, ◌≤◌, ◌+◌, ◌-◌, ◌==◌, ℕ, List, [], length, map, slice_index_or, slice_range, Bool, Option, Some, None, MatchBool, if◌then◌else◌}
use Rattle.cs_store.specs.edits.Edits.{BodyEdit}
use Rattle.cs_store.specs.declared.edits.lent_edits.EditSpot.{EditSpot}

-- the piece of a spot
abbrev pub piece_of : List (List ℕ) → EditSpot → List ℕ
piece_of pieces spot = slice_index_or pieces spot.piece []

-- whether no body is set there
abbrev pub is_clear : EditSpot → Bool
is_clear spot = spot.past == 0

-- a place in pieces of bytes
abbrev pub IsEditSpotIn : List (List ℕ) → EditSpot → Type 0
IsEditSpotIn pieces spot =
    (spot.piece < length pieces) × (spot.key ≤ spot.body) × (spot.body ≤ length (piece_of pieces spot))
    × MatchBool (is_clear spot) (Unit {0}) ((spot.body < spot.past) × (spot.past ≤ length (piece_of pieces spot) + 1))

-- the edit that stands in the pieces at a spot
abbrev pub edit_in : List (List ℕ) → EditSpot → BodyEdit
edit_in pieces spot = record {
  table = spot.table;
  key = slice_range (piece_of pieces spot) spot.key spot.body;
  body = if is_clear spot then None else Some (slice_range (piece_of pieces spot) spot.body (spot.past - 1));
}

-- the edits that stand in the pieces at some spots
abbrev pub edits_in : List (List ℕ) → List EditSpot → List BodyEdit
edits_in pieces spots = map (edit_in pieces) spots

-- the bytes of a body that is set, or no byte
abbrev pub set_bytes : Option (List ℕ) → List ℕ
set_bytes None = []
set_bytes (Some body) = body
