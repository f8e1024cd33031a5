-- Keys in one piece of memory: their bytes, and where each stands.
use Rattle.std.specs.Prelude.{ℕ, ◌≤◌, List, map, slice_range}
use Rattle.cs_order.specs.Order.{Keys}

-- a place in so many bytes
abbrev pub IsSpotIn : ℕ → ℕ × ℕ → Type 0
IsSpotIn long spot = (spot.0 ≤ spot.1) × (spot.1 ≤ long)

-- the keys that stand in the bytes at some spots
abbrev pub keys_in : List ℕ → List (ℕ × ℕ) → Keys
keys_in bytes spots = map (λ spot. slice_range bytes spot.0 spot.1) spots
