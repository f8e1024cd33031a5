-- Keys and changes that stay in their bytes, side by side.
use Rattle.std.specs.Prelude.{List, [], ◌∷◌}
use Rattle.cs_order.specs.Order.{Keys}
use Rattle.cs_change.specs.declared.change.Change.{Change}
use Rattle.cs_normal.specs.keyed.Changes.{Changes}

-- keys and changes, side by side
abbrev pub beside : Keys → List Change → Changes
beside [] changes = []
beside (k ∷ keys) [] = []
beside (k ∷ keys) (c ∷ changes) = (k, c) ∷ beside keys changes
