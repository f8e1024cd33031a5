-- The requests that lines make: each a line, or several edits behind a line that says how many (profile of this project).
use Rattle.std.specs.Prelude.{◌≡◌, ◌<◌, ◌≤◌, ℕ, List, [], ◌∷◌, ◌++◌, Option, Some, None, flat_map, length}
use Rattle.std.specs.List.{AllByRecursion}
use Rattle.cs_node_lines.specs.asks.Several.{several_in}

abbrev pub or_none : Option ℕ → ℕ
or_none (Some count) = count
or_none None = 0

-- how many lines belong to a request behind its first
abbrev pub follows : List ℕ → ℕ
follows first = or_none (several_in first)

-- the lines are one request
abbrev pub IsWhole : List (List ℕ) → Type 0
IsWhole [] = ⊥
IsWhole (first ∷ more) = length more ≡ follows first

-- they are one request, or its first lines
abbrev pub IsBegun : List (List ℕ) → Type 0
IsBegun [] = ⊥
IsBegun (first ∷ more) = length more ≤ follows first

-- they are the first lines of one that isn't whole
abbrev pub IsUnfinished : List (List ℕ) → Type 0
IsUnfinished [] = ⊥
IsUnfinished (first ∷ more) = length more < follows first

-- or there are none
abbrev pub IsPart : List (List ℕ) → Type 0
IsPart [] = Unit {0}
IsPart (first ∷ more) = IsUnfinished (first ∷ more)

-- the lines of requests
abbrev pub joined : List (List (List ℕ)) → List (List ℕ)
joined requests = flat_map (λ request. request) requests

-- the lines are these requests, one behind another, and this part of one behind them, if any
abbrev pub AreRequests : List (List ℕ) → List (List (List ℕ)) → List (List ℕ) → Type 0
AreRequests lines requests part = (lines ≡ joined requests ++ part) × AllByRecursion IsWhole requests × IsPart part

-- requests, and a part of one as the last of them
abbrev pub with_part : List (List (List ℕ)) → List (List ℕ) → List (List (List ℕ))
with_part requests [] = requests
with_part requests (first ∷ more) = requests ++ (first ∷ more) ∷ []
