-- A store that held nothing, opened: no definition that a public clause cites.
use Rattle.std.specs.Prelude.{◌≡◌, ℕ, List}
use Rattle.cs_value.specs.declared.catalog.TableDef.{TableDef}
use Rattle.cs_opening.specs.Fresh.{IsFirst, first_position}
use Rattle.cs_replica.specs.Holding.{Holding}
use Rattle.cs_store.specs.Contents.{Contents}
use Rattle.cs_store.specs.declared.store.RowStore.{Ghosts}

-- a stop leaves what the store holds, alone
abbrev pub LeavesAlone : {S : Type 0} → Ghosts S → S → Type 0
LeavesAlone g store = g.honest store → (left : Contents) → g.may_leave store left → left ≡ g.contents store

-- the replica with this id, at the first position
abbrev pub IsNewReplica : {S : Type 0} → Ghosts S → List TableDef → ℕ → Holding S → Type 0
IsNewReplica g tables id held =
    g.honest held.store
    → (held.catalog ≡ tables) × (held.position ≡ first_position id) × IsFirst tables id (g.contents held.store) × LeavesAlone g held.store
