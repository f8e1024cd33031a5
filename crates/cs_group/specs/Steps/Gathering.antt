-- The changes of one table over changesets as read, where they stand.
use Rattle.std.specs.Prelude.{◌≡◌, ◌+◌, ◌<◌, ℕ, Bool, true, List, Some, length, map, slice_get, slice_index_or}
use Rattle.std.specs.List.{flat_map, list_all}
use Rattle.cs_change.specs.declared.change.Change.{Change}
use Rattle.cs_normal.specs.keyed.NormalForm.{change_bytes, has_key}
use Rattle.cs_group.specs.Steps.Numbering.{changes_in_group, numbers_in_group, NumberedGroup}
use Rattle.cs_group.specs.declared.gathered.Gathered.{Gathered}
use Rattle.cs_group.specs.declared.lent.Part.{Part}

-- the changes that are lent
abbrev pub lent_changes : List Part → List Change
lent_changes parts = flat_map (λ part. part.changes.now) parts

-- the numbers of their changesets
abbrev pub lent_numbers : List Part → List ℕ
lent_numbers parts = flat_map (λ part. map (λ _. part.number) part.changes.now) parts

-- the change at this place is the one of this part that stands so far behind its first
pub record IsPlaced (parts : List Part) (place at : ℕ) : Type 0 where
  pub part : Part
  pub behind : ℕ
  pub is_part : slice_get parts at ≡ Some part
  pub is_place : place ≡ part.first + behind
  pub change : slice_get (lent_changes parts) place ≡ slice_get part.changes.now behind
  pub number : slice_index_or (lent_numbers parts) place 0 ≡ part.number

-- for each change these say in which part it stands
pub record ArePlaced (parts : List Part) (of : List ℕ) : Type 0 where
  pub count : length of ≡ length (lent_changes parts)
  pub each : (place : ℕ) → place < length of → IsPlaced parts place (slice_index_or of place 0)

-- these are the parts of these groups' changes, each of which has its part
pub record AreLent (groups : List NumberedGroup) (parts : List Part) (of : List ℕ) : Type 0 where
  pub placed : ArePlaced parts of
  pub changes : lent_changes parts ≡ flat_map changes_in_group groups
  pub numbers : lent_numbers parts ≡ flat_map numbers_in_group groups

-- the keys of the changes of these groups, none of which has one with NULL
pub record IsGathered (marks : List Bool) (groups : List NumberedGroup) (gathered : Gathered) : Type 0 where
  pub keys : gathered.keys ≡ map (change_bytes marks) (flat_map changes_in_group groups)
  pub set : list_all (has_key marks) (flat_map changes_in_group groups) ≡ true
