-- The names of groups, and what stands at their places.
use Rattle.std.specs.Prelude.{ℕ, List, [], map, slice_index_or}
use Rattle.cs_change.specs.declared.change.Change.{Change}
use Rattle.cs_change.specs.declared.group.Group.{Group}
use Rattle.cs_order.specs.Order.{Keys}

-- the names of the groups' tables
abbrev pub names_of : List Group → Keys
names_of groups = map (λ group. group.name) groups

-- what stands past the end: no table's group
abbrev pub nowhere : Group
nowhere = record { marks = []; name = []; changes = [] }

-- the changes of the group at a place; none past the end
abbrev pub changes_at : List Group → ℕ → List Change
changes_at groups place = (slice_index_or groups place nowhere).changes
