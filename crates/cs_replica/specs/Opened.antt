-- How a replica is opened over a store (profile of this project).
use Rattle.std.specs.Prelude.{◌≡◌, ℕ, List, Result}
use Rattle.cs_value.specs.declared.catalog.TableDef.{TableDef}
use Rattle.cs_store.specs.declared.store.RowStore.{Ghosts}
use Rattle.cs_pending.specs.Calls.{WritesStore}
use Rattle.cs_opening.specs.declared.fault.OpenFault.{OpenFault}
use Rattle.cs_opening.specs.declared.fault.OpenFault.TheVariants.{Device}
use Rattle.cs_opening.specs.Wider.{MayBeOpened}

-- the store was laid out, or its value of pending changes moved, in one commit, by the handed tables or by those that it keeps; or
-- it was not written
abbrev pub Opens : {S : Type 0} → Ghosts S → List TableDef → ℕ → S → S → Result (Unit {0}) OpenFault → Type 0
Opens g handed id old new result =
    WritesStore g Device (Unit {0}) (MayBeOpened handed id (g.contents old)) old new result

-- the store was not written: it holds what it held, and so after a stop where anything else could be left
abbrev pub Reopens : {S : Type 0} → Ghosts S → S → S → Result (Unit {0}) OpenFault → Type 0
Reopens g old new result =
    WritesStore g Device (Unit {0}) (λ left. left ≡ g.contents old) old new result
