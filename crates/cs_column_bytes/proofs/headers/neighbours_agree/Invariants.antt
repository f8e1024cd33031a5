use Rattle.std.specs.List.{AllAdjacentBelow}
use Rattle.std.proofs.Common.{◌≡◌}
use Rattle.cs_column_bytes.specs.KeyPlaces.{AreAlike}
use Rattle.cs_column_bytes.specs.Steps.{head_of}
use Rattle.cs_column_bytes.proofs.headers.neighbours_agree.Given as goal

abbrev pub invariant-loop-at : goal.invariant-loop-at
invariant-loop-at l =
    AllAdjacentBelow (λ header next. AreAlike (head_of header) (head_of next) → header.marks.now ≡ next.marks.now) l.headers l.at
