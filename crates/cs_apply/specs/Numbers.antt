-- The numbers of the slots at which changes wait, as they are held.
use Rattle.std.specs.Prelude.{◌≡◌, ◌<◌, ℕ, zero, suc, List, [], ◌∷◌, length, map, replicate, Option, Some, None, slice_index_or}
use Rattle.std.specs.List.{All, Contains}

-- one more than a number, or 0 for none
abbrev pub number_of : ℕ → Option ℕ
number_of zero = None
number_of (suc number) = Some number

-- the numbers of so many changes, of which none has one as long as nothing is told
abbrev pub numbers_told : ℕ → List ℕ → List (Option ℕ)
numbers_told count [] = replicate count None
numbers_told count (first ∷ told) = map number_of (first ∷ told)

-- the changes of the group that waits as this number
abbrev pub changes_waiting : List (List ℕ) → List ℕ → ℕ → List ℕ
changes_waiting groups waiting number = slice_index_or groups (slice_index_or waiting number 0) []

-- groups of so many changes, no change in two of them
pub record AreWaitingGroups (groups : List (List ℕ)) (waiting : List ℕ) (count : ℕ) : Type 0 where
  pub within : All (λ group. group < length groups) waiting
  pub below : (number : ℕ) → number < length waiting → All (λ change. change < count) (changes_waiting groups waiting number)
  pub apart : (i j at : ℕ) → i < j → j < length waiting → Contains (changes_waiting groups waiting i) at → Contains (changes_waiting groups waiting j) at → ⊥

-- each change of these groups has the number of its group, and no other change has one
pub record HaveNumbers (groups : List (List ℕ)) (waiting : List ℕ) (count : ℕ) (numbers : List (Option ℕ)) : Type 0 where
  pub long : length numbers ≡ count
  pub given : (number at : ℕ) → number < length waiting → Contains (changes_waiting groups waiting number) at → slice_index_or numbers at None ≡ Some number
  pub others : (at : ℕ) → ((number : ℕ) → number < length waiting → Contains (changes_waiting groups waiting number) at → ⊥) → slice_index_or numbers at None ≡ None
