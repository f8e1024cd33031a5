-- The groups of changesets as read, each with the number of its changeset.
use Rattle.std.specs.Prelude.{ℕ, ◌+◌, List, [], ◌∷◌, ◌++◌, map, Option, Some, None, slice_get, if◌then◌else◌}
use Rattle.std.specs.List.{flat_map}
use Rattle.std.specs.Str.{bytes_eq}
use Rattle.std.specs.Borrow.{Bor}
use Rattle.cs_change.specs.declared.change.Change.{Change}
use Rattle.cs_change.specs.declared.group.Group.{Group}
use Rattle.cs_order.specs.Order.{Keys}

-- the number of a changeset, and one of its groups
abbrev pub NumberedGroup : Type 0
NumberedGroup = ℕ × Group

abbrev pub numbered_behind : List (ℕ × Bor Group) → List NumberedGroup
numbered_behind groups = map (λ numbered. (numbered.0, numbered.1.now)) groups

-- the groups of changesets, one changeset after another, the first of which has this number
abbrev pub numbered_from : ℕ → List (List Group) → List NumberedGroup
numbered_from number [] = []
numbered_from number (groups ∷ rest) = map (λ group. (number, group)) groups ++ numbered_from (number + 1) rest

abbrev pub name_of : NumberedGroup → List ℕ
name_of numbered = numbered.1.name

abbrev pub numbered_names : List NumberedGroup → Keys
numbered_names groups = map name_of groups

abbrev pub changes_in_group : NumberedGroup → List Change
changes_in_group numbered = numbered.1.changes

-- the number of a group's changeset, once for each change
abbrev pub numbers_in_group : NumberedGroup → List ℕ
numbers_in_group numbered = map (λ _. numbered.0) numbered.1.changes

-- those that have this name
abbrev pub named : List ℕ → List NumberedGroup → List NumberedGroup
named name groups = flat_map (λ numbered. if bytes_eq (name_of numbered) name then numbered ∷ [] else []) groups

-- a group, if there is one, as a list
abbrev pub listed_group : Option NumberedGroup → List NumberedGroup
listed_group None = []
listed_group (Some group) = group ∷ []

-- those at some places
abbrev pub groups_at : List NumberedGroup → List ℕ → List NumberedGroup
groups_at groups places = flat_map (λ place. listed_group (slice_get groups place)) places
