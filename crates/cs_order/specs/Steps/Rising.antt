-- Whether keys rise.
use Rattle.std.specs.Prelude.{ℕ, Bool, true, ◌&&◌, List, [], ◌∷◌}
use Rattle.std.specs.Ordering.{is_lt}
use Rattle.cs_order.specs.Order.{Keys, by_bytes}

-- each key is below the next, the first above this one
unfoldable pub ascend_from : List ℕ → Keys → Bool
ascend_from last [] = true
ascend_from last (k ∷ keys) = is_lt (by_bytes last k) && ascend_from k keys

-- each key is below the next
unfoldable pub ascend : Keys → Bool
ascend [] = true
ascend (k ∷ keys) = ascend_from k keys
