-- The first position of a replica, over a store that held nothing.
use Rattle.std.specs.Prelude.{◌≡◌, ◌≢◌, ◌⊎◌, ℕ, List, Option, Some, None}
use Rattle.cs_value.specs.declared.catalog.TableDef.{TableDef}
use Rattle.cs_store.specs.Contents.{Contents, nothing}
use Rattle.cs_pending.specs.Laws.{empty_view}
use Rattle.cs_pending.specs.position.Shows.{ShowsAt}
use Rattle.cs_pending.specs.declared.position.position.Position.{Position}

-- a replica that has come to no version, with nothing pushed and nothing pending
abbrev pub first_position : ℕ → Position
first_position id = record { id = id; version = 0; number = 0; flight = None; pending = 0 }

-- a store with the values of the first position, and nothing else
abbrev pub IsFirst : List TableDef → ℕ → Contents → Type 0
IsFirst tables id contents = ShowsAt tables contents (first_position id) empty_view

-- where there was nothing, there are the values of the first position
abbrev pub IsLaidOut : List TableDef → ℕ → Contents → Contents → Type 0
IsLaidOut tables id old new = old ≡ nothing → IsFirst tables id new

-- contents are as they were, or there was nothing and they are the first
abbrev pub IsSameOrFirst : List TableDef → ℕ → Contents → Contents → Type 0
IsSameOrFirst tables id old new = (new ≡ old) ⊎ ((old ≡ nothing) × IsFirst tables id new)

-- there was something and it is as it was, or there was nothing and this is the first position
abbrev pub IsOpenedFresh : List TableDef → ℕ → Contents → Contents → Option Position → Type 0
IsOpenedFresh tables id old new None = (old ≢ nothing) × (new ≡ old)
IsOpenedFresh tables id old new (Some position) =
    (old ≡ nothing) × (position ≡ first_position id) × IsFirst tables id new
