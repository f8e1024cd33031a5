-- Places in order, of which some wait for the turns of their changes. A place that is made stands as its slot, and one
-- that waits as none: it has the next of the slots that wait.
use Rattle.std.specs.Prelude.{◌≤◌, ◌+◌, ℕ, zero, suc, List, [], ◌∷◌, ◌++◌, length, map, Option, Some, None, option_map}
use Rattle.cs_store.specs.edits.Edits.{BodyEdit}
use Rattle.cs_apply.specs.Edited.{edit_list, edit_for}
use Rattle.cs_apply.specs.Meeting.{blank}
use Rattle.cs_apply.specs.declared.slots.Slot.{Slot}

-- the slots of all the places
abbrev pub weave : List (Option Slot) → List Slot → List Slot
weave [] slots = []
weave (Some made ∷ held) slots = made ∷ weave held slots
weave (None ∷ held) [] = []
weave (None ∷ held) (slot ∷ slots) = slot ∷ weave held slots

-- the places as the store has them
abbrev pub unmade : List (Option Slot) → List (Option Slot)
unmade held = map (option_map blank) held

-- the place of this number waits, and has the slot of that number
abbrev pub IsWaiting : List (Option Slot) → ℕ → ℕ → Type 0
IsWaiting [] at number = ⊥
IsWaiting (Some made ∷ held) zero number = ⊥
IsWaiting (Some made ∷ held) (suc at) number = IsWaiting held at number
IsWaiting (None ∷ held) zero zero = Unit {0}
IsWaiting (None ∷ held) zero (suc number) = ⊥
IsWaiting (None ∷ held) (suc at) zero = ⊥
IsWaiting (None ∷ held) (suc at) (suc number) = IsWaiting held at number

-- how many wait
abbrev pub count_waiting : List (Option Slot) → ℕ
count_waiting [] = 0
count_waiting (Some made ∷ held) = count_waiting held
count_waiting (None ∷ held) = suc (count_waiting held)

-- what stands for the edit of a place that waits
abbrev pub stand_in : BodyEdit
stand_in = record { table = 0; key = []; body = None }

-- the edits of the places that are made, and in their midst what stands for those of the places that wait
abbrev pub made_edits : List (Option Slot) → List BodyEdit
made_edits [] = []
made_edits (Some made ∷ held) = edit_list (edit_for made) ++ made_edits held
made_edits (None ∷ held) = stand_in ∷ made_edits held

-- which of these edits stand for places that wait, where the first edit of all has this number
abbrev pub stands_from : ℕ → List (Option Slot) → List ℕ
stands_from at [] = []
stands_from at (Some made ∷ held) = stands_from (at + length (edit_list (edit_for made))) held
stands_from at (None ∷ held) = at ∷ stands_from (at + 1) held

abbrev pub stands_of : List (Option Slot) → List ℕ
stands_of held = stands_from 0 held

-- numbers that rise, none below the first of these and each below the last
abbrev pub RiseBetween : ℕ → List ℕ → ℕ → Type 0
RiseBetween from [] end = from ≤ end
RiseBetween from (at ∷ numbers) end = (from ≤ at) × RiseBetween (at + 1) numbers end
