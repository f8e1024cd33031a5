-- The log of a `MapStore`, packed: entries in chunks, each with one list for all bodies.
use Rattle.std.specs.Prelude.{◌≡◌, ◌⊎◌, ◌≤◌, ◌<◌, ◌+◌, ◌^◌, ℕ, zero, suc, pos, length, slice_range, slice_index_or, List, [], ◌∷◌, ◌++◌, Option, Some, None}
use Rattle.std.specs.List.{All}
use Rattle.cs_store.specs.Contents.{LogItem}
use Rattle.cs_map_store.specs.declared.log.EntrySpot.{EntrySpot}

-- entries, how many more there are places for, and how many bytes more of bodies there is room for
pub record PackedItems : Type 0 where
  pub items : List LogItem
  pub places : ℕ
  pub bytes : ℕ

-- the entry at a spot, whose body begins at `start`
abbrev pub item_in : List ℕ → ℕ → EntrySpot → LogItem
item_in bytes start s = record { origin = pos s.origin; number = s.number; body = slice_range bytes start s.end }

-- the entries at spots, of which the first one's body begins at `start`, and each other's where the one before ends
abbrev pub items_in : List ℕ → ℕ → List EntrySpot → List LogItem
items_in bytes start [] = []
items_in bytes start (s ∷ spots) = item_in bytes start s ∷ items_in bytes s.end spots

-- where the body at a spot begins
abbrev pub start_at : ℕ → List EntrySpot → ℕ → ℕ
start_at start spots zero = start
start_at start [] (suc at) = start
start_at start (s ∷ spots) (suc at) = start_at s.end spots at

-- bodies stand one behind another, from `start` up to `end`
abbrev pub AreSpots : ℕ → List EntrySpot → ℕ → Type 0
AreSpots start [] end = start ≡ end
AreSpots start (s ∷ spots) end = (start ≤ s.end) × AreSpots s.end spots end

abbrev pub no_item : LogItem
no_item = record { origin = pos 0; number = 0; body = [] }

-- the entry there, the first being 0; past the end it doesn't matter which
abbrev pub nth_item : List LogItem → ℕ → LogItem
nth_item items at = slice_index_or items at no_item

-- the entries of all chunks
abbrev pub joined : List PackedItems → List LogItem
joined [] = []
joined (chunk ∷ chunks) = chunk.items ++ joined chunks

-- a chunk has all the entries that it may have
abbrev pub IsFull : PackedItems → Type 0
IsFull chunk = length chunk.items ≡ 256

-- the last chunk has places for all that it lacks, or is the one of a new log, without memory
abbrev pub IsPart : PackedItems → Type 0
IsPart last = (length last.items + last.places ≡ 256) ⊎ (length last.items + last.places ≡ 0)

-- what a log keeps: each chunk but the last is full, and versions are in reach of a `u32`
abbrev pub IsLog : List PackedItems → PackedItems → Type 0
IsLog full last = All IsFull full × IsPart last × (length (joined full ++ last.items) < 2 ^ 32)

-- there is room for the entry, if there is one
abbrev pub HasRoomFor : PackedItems → Option LogItem → Type 0
HasRoomFor log None = Unit {0}
HasRoomFor log (Some item) = (0 < log.places) × (length item.body ≤ log.bytes) × (length log.items + 1 < 2 ^ 32)
