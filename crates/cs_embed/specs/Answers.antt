-- What the library tells of a call, and what it hands over.
use Rattle.std.specs.Prelude.{◌≡◌, ℕ, ◌<◌, ◌≤◌, ◌⊎◌, List, ◌++◌, length, drop}
use Rattle.cs_embed.specs.declared.answer.Answer.{Answer}

-- a fault is told by number, and 0 is none

-- all was done, and the texts and the file take so many bytes
abbrev pub done : ℕ → ℕ → Answer
done told file = record { fault = 0; line = 0; told = told; file = file }

-- nothing was done, for the reason of this number
abbrev pub refused : ℕ → Answer
refused fault = record { fault = fault; line = 0; told = 0; file = 0 }

-- memory is wanting
abbrev pub no_memory : Answer
no_memory = refused 1

-- the declaring bytes declare no tables
abbrev pub no_tables : Answer
no_tables = refused 50

-- the line of this number can't be read
abbrev pub unread : ℕ → Answer
unread line = record { fault = 60; line = line; told = 0; file = 0 }

-- the file is a store's, and damaged
abbrev pub damaged : Answer
damaged = refused 61

-- the file is no store's
abbrev pub device : Answer
device = refused 62

-- the file is another's
abbrev pub mismatch : Answer
mismatch = refused 63

-- no replica has the id
abbrev pub bad_id : Answer
bad_id = refused 64

-- what stands in the caller's memory after these bytes were handed over: they in front, if they have room
pub record IsHanded (bytes before after : List ℕ) : Type 0 where
  pub room : length bytes ≤ length before → after ≡ bytes ++ drop (length bytes) before
  pub no_room : length before < length bytes → after ≡ before

-- the caller's memory for texts and for a file, before a call and after
pub record Rooms : Type 0 where
  pub told : List ℕ
  pub told_after : List ℕ
  pub left : List ℕ
  pub left_after : List ℕ

-- these texts and this file are handed over, and their lengths are told
pub record AreHanded (texts file : List ℕ) (rooms : Rooms) (answer : Answer) : Type 0 where
  pub texts_are : IsHanded texts rooms.told rooms.told_after
  pub file_is : IsHanded file rooms.left rooms.left_after
  pub lengths : answer ≡ done (length texts) (length file)

-- this is told, and nothing is written
pub record IsKept (owed : Answer) (rooms : Rooms) (answer : Answer) : Type 0 where
  pub told : answer ≡ owed
  pub texts_stay : rooms.told_after ≡ rooms.told
  pub file_stays : rooms.left_after ≡ rooms.left

abbrev pub rooms_of : List ℕ → List ℕ → List ℕ → List ℕ → Rooms
rooms_of told told_after left left_after = record { told = told; told_after = told_after; left = left; left_after = left_after }

-- texts and a file that were made so are handed over, or it is told why there are none
abbrev pub Hands : (List ℕ → List ℕ → Type 0) → (Answer → Type 0) → Rooms → Answer → Type 0
Hands AreMade IsWhy rooms answer =
    ((texts : List ℕ) × (file : List ℕ) × AreMade texts file × AreHanded texts file rooms answer)
    ⊎ ((owed : Answer) × IsWhy owed × IsKept owed rooms answer)
