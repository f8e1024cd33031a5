-- What is left of the groups that are folded so far.
use Rattle.std.specs.Prelude.{◌≡◌, ◌<◌, ◌⊎◌, ℕ, List, [], ◌∷◌, ◌++◌, length}
use Rattle.std.specs.List.{flat_map}
use Rattle.cs_change.specs.Spelling.{change_spelling, changes_spelling}
use Rattle.cs_change.specs.declared.change.Change.{Change}
use Rattle.cs_order.specs.Order.{Keys}
use Rattle.cs_normal.specs.keyed.Changes.{Changes}
use Rattle.cs_normal.specs.keyed.Keyed.{beside}
use Rattle.cs_group.specs.declared.folding.Folding.{Folding}
use Rattle.cs_group.specs.declared.spelling.Spelling.{Spelling}

-- what is folded group by group: one step a group
pub data AreFolded {F : Type 0} (Step : List ℕ → F → F → Type 0) : List (List ℕ) → F → F → Type 0 where
  none_folded : (begun : F) → AreFolded Step [] begun begun
  one_more : (begun so_far now : F) (groups : List (List ℕ)) (group : List ℕ) → AreFolded Step groups begun so_far → Step group so_far now → AreFolded Step (groups ++ group ∷ []) begun now

-- these keys were gathered, and behind those of them that were picked stands what is left
pub record IsFolding (keys : Keys) (joined : Changes) (folding : Folding) : Type 0 where
  pub keys_are : folding.keys.0 ≡ keys
  pub as_many : length folding.keys.1 ≡ length folding.left
  pub entries : beside folding.keys.1 folding.left ≡ joined

-- the changes behind keys, as they are spelled
abbrev pub spelled_changes : Changes → List ℕ
spelled_changes joined = flat_map (λ keyed. change_spelling keyed.1) joined

-- the same behind a header, where there are some
abbrev pub spelled_behind : List ℕ → Changes → List ℕ
spelled_behind header [] = []
spelled_behind header (first ∷ others) = header ++ spelled_changes (first ∷ others)

-- nothing is written yet: the header stands beside, and all changes wait
pub record IsWaiting (before front : List ℕ) (joined : Changes) (out header : List ℕ) (some : List Change) : Type 0 where
  pub out_is : out ≡ before
  pub header_is : header ≡ front
  pub as_many : length some ≡ length joined
  pub waits : changes_spelling some ≡ spelled_changes joined

-- the header is written, and the changes but for some that wait
pub record HasBegun (before front : List ℕ) (joined : Changes) (out header : List ℕ) (some : List Change) : Type 0 where
  pub no_header : header ≡ []
  pub not_none : 0 < length joined
  pub spelled : out ++ changes_spelling some ≡ before ++ (front ++ spelled_changes joined)

-- behind what stood there these changes are spelled so far, behind their header
abbrev pub AreSpelled : List ℕ → List ℕ → Changes → List ℕ → List ℕ → List Change → Type 0
AreSpelled before front joined out header some =
    IsWaiting before front joined out header some ⊎ HasBegun before front joined out header some

abbrev pub IsSpelling : List ℕ → List ℕ → Changes → Spelling → Type 0
IsSpelling before front joined spelling =
    AreSpelled before front joined spelling.out spelling.header.items spelling.some
