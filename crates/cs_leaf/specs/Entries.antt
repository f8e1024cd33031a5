-- Bodies as a leaf has them: entries, that stand at spots of one list of bytes.
use Rattle.std.specs.declared.alloc.Global.{Global}
use Rattle.std.specs.Prelude.{Vec, ◌≡◌, ◌⊎◌, ◌≤◌, ◌<◌, ◌+◌, ◌-◌, ◌*◌, ℕ, Bool, true, false, pos, map, length, slice_range, slice_index_or, slice_set, List, [], ◌∷◌, Option, Some, None}
use Rattle.std.specs.List.{All, insert, remove}
use Rattle.std.specs.Vec.{vec_len, vec_capacity}
use Rattle.std.specs.Ordering.{is_lt}
use Rattle.cs_order.specs.Heads.{AreBytes, head_of}
use Rattle.cs_store.specs.Contents.{StorePlace, place_cmp}
use Rattle.cs_leaf.specs.declared.leaf.Front.{Front}
use Rattle.cs_leaf.specs.declared.leaf.Spot.{Spot}
use Rattle.cs_leaf.specs.declared.leaf.SpotEdit.{SpotEdit}
use Rattle.cs_leaf.specs.declared.leaf.SpotEdit.TheVariants.{Set, Add, Remove, Stay}

-- a place, and the bytes of its row
abbrev pub Entry : Type 0
Entry = StorePlace × List ℕ

-- the number that the first 16 bytes of a key spell, with a zero for each that is missing
abbrev pub IsHeadOf : ℕ → List ℕ → Type 0
IsHeadOf head key = (head ≡ head_of 16 key) × AreBytes key

-- a key with this head and a row stand there in the bytes
abbrev pub IsSpotIn : List ℕ → Spot → Type 0
IsSpotIn bytes s = (s.key ≤ s.row) × (s.row ≤ s.end) × (s.end ≤ length bytes) × IsHeadOf s.head (slice_range bytes s.key s.row)

-- spots that stand one behind another in the bytes, from `start` up to `end`
abbrev pub IsRun : ℕ → List Spot → ℕ → Type 0
IsRun start [] end = start ≡ end
IsRun start (s ∷ spots) end = (s.key ≡ start) × IsRun s.end spots end

-- the spot of which the bytes from `start` on stand behind `held` others
abbrev pub shifted : Spot → ℕ → ℕ → Spot
shifted s start held = record { head = s.head; table = s.table; key = held + (s.key - start); row = held + (s.row - start); end = held + (s.end - start) }

-- the head and the table of the first spot, or zeros
abbrev pub IsFrontOf : Front → List Spot → Type 0
IsFrontOf front [] = (front.head ≡ 0) × (front.table ≡ 0)
IsFrontOf front (s ∷ spots) = (front.head ≡ s.head) × (front.table ≡ s.table)

abbrev pub entry_at : List ℕ → Spot → Entry
entry_at bytes s = ((pos s.table, slice_range bytes s.key s.row), slice_range bytes s.row s.end)

-- the entries that stand in the bytes at some spots
abbrev pub entries_at : List ℕ → List Spot → List Entry
entries_at bytes spots = map (entry_at bytes) spots

-- how many bytes a row takes with its key
abbrev pub size_of : Entry → ℕ
size_of e = length e.0.1 + length e.1

-- how many bytes rows take with their keys
abbrev pub bytes_of : List Entry → ℕ
bytes_of [] = 0
bytes_of (e ∷ es) = size_of e + bytes_of es

-- so many bytes, of which `used` are those of the entries: at least half, so the others, of rows that are gone, are never more
abbrev pub IsTight : ℕ → ℕ → List Entry → Type 0
IsTight used len es = (used ≡ bytes_of es) × (used ≤ len) × (len ≤ 2 * used)

-- what a leaf keeps: each spot stands in its bytes, the front is the first one's, and rows take at least half of the bytes
abbrev pub IsPacked : Front → List ℕ → List Spot → ℕ → Type 0
IsPacked front bytes spots used = All (IsSpotIn bytes) spots × IsFrontOf front spots × IsTight used (length bytes) (entries_at bytes spots)

abbrev pub no_entry : Entry
no_entry = ((pos 0, []), [])

-- the entry there, the first being 0; past the end it doesn't matter which
abbrev pub nth : List Entry → ℕ → Entry
nth es at = slice_index_or es at no_entry

-- the entry before `low` is below a place, and the one at `high` isn't
abbrev pub IsPlaceBetween : List Entry → ℕ → ℕ → ℕ → StorePlace → Type 0
IsPlaceBetween es from low high place =
    ((low ≡ from) ⊎ (is_lt (place_cmp (nth es (low - 1)).0 place) ≡ true))
    × ((high ≡ length es) ⊎ (is_lt (place_cmp (nth es high).0 place) ≡ false))

-- where a place stands or would stand among entries in order, not before `from`
abbrev pub IsPlaceFor : List Entry → ℕ → ℕ → StorePlace → Type 0
IsPlaceFor es from at place = IsPlaceBetween es from at at place

-- what is written at a place
abbrev pub written : StorePlace → Option (List ℕ) → List Entry
written place None = []
written place (Some row) = (place, row) ∷ []

-- ---- an edit in place

-- spots after an edit of them at a position
abbrev pub spots_after : List Spot → ℕ → SpotEdit → List Spot
spots_after spots at (Set s) = slice_set spots at s
spots_after spots at (Add s) = insert spots at s
spots_after spots at Remove = remove spots at
spots_after spots at Stay = spots

-- it can be made at a position of so many
abbrev pub IsSpotEditAt : ℕ → ℕ → SpotEdit → Type 0
IsSpotEditAt count at (Set s) = at < count
IsSpotEditAt count at (Add s) = at ≤ count
IsSpotEditAt count at Remove = at < count
IsSpotEditAt count at Stay = Unit {0}

-- what it sets or adds stands in the bytes
abbrev pub IsSpotEditIn : List ℕ → SpotEdit → Type 0
IsSpotEditIn bytes (Set s) = IsSpotIn bytes s
IsSpotEditIn bytes (Add s) = IsSpotIn bytes s
IsSpotEditIn bytes _ = Unit {0}

-- it takes no memory
abbrev pub HasRoomFor : Vec Spot Global → SpotEdit → Type 0
HasRoomFor spots (Add s) = vec_len spots < vec_capacity spots
HasRoomFor spots _ = Unit {0}

-- the edit of spots that sets a row at a place, or with none removes what is there
abbrev pub IsSpotEditFor : StorePlace → Option (List ℕ) → Bool → List ℕ → SpotEdit → Type 0
IsSpotEditFor place body is_there bytes (Set s) = (is_there ≡ true) × IsSpotIn bytes s × (written place body ≡ entry_at bytes s ∷ [])
IsSpotEditFor place body is_there bytes (Add s) = (is_there ≡ false) × IsSpotIn bytes s × (written place body ≡ entry_at bytes s ∷ [])
IsSpotEditFor place body is_there bytes Remove = (is_there ≡ true) × (written place body ≡ [])
IsSpotEditFor place body is_there bytes Stay = (is_there ≡ false) × (written place body ≡ [])
