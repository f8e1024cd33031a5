-- A list of one change.
use Rattle.std.specs.Prelude.{List, [], ◌∷◌}
use Rattle.std.proofs.Props.{props}
use Rattle.cs_change.specs.declared.change.Change.{Change}

-- there is one change
abbrev pub IsOne : List Change → Type 0
IsOne [] = ⊥
IsOne (change ∷ []) = Unit {0}
IsOne (change ∷ next ∷ others) = ⊥

pub IsOne-prop : (changes : List Change) → IsProp (IsOne changes)
IsOne-prop [] = hlevel props
IsOne-prop (change ∷ []) = hlevel props
IsOne-prop (change ∷ next ∷ others) = hlevel props

-- and it is this
abbrev pub the_one : (changes : List Change) → IsOne changes → Change
the_one [] one = absurd one
the_one (change ∷ []) one = change
the_one (change ∷ next ∷ others) one = absurd one
