-- What is known on the way: no definition that a public clause cites.
use Rattle.std.specs.Prelude.{◌≡◌, ℕ, List, map}
use Rattle.std.specs.List.{AllByRecursion}
use Rattle.cs_change.specs.Spelling.{FitsRow}
use Rattle.cs_record.specs.Spelling.{row_bytes}
use Rattle.cs_store.specs.Written.{pairs_of}
use Rattle.cs_store.specs.declared.store.StoredBody.{StoredBody}
use Rattle.cs_value.specs.declared.value.Value.{Value}

-- a row behind its key, in its bytes
abbrev pub spelled : List ℕ × List Value → List ℕ × List ℕ
spelled row = (row.0, row_bytes row.1)

-- the rows are what these bodies spell, each with so many columns
abbrev pub AreSpelled : ℕ → List StoredBody → List (List ℕ × List Value) → Type 0
AreSpelled columns listed rows =
    (map spelled rows ≡ pairs_of listed) × AllByRecursion (λ (row : List ℕ × List Value). FitsRow columns row.1) rows

-- a body is a row with so many columns
abbrev pub IsRowBody : ℕ → StoredBody → Type 0
IsRowBody columns stored = (row : List Value) × FitsRow columns row × (stored.body.items ≡ row_bytes row)
