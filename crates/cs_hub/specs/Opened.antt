-- How a hub is opened over a store (profile of this project).
use Rattle.std.specs.Prelude.{List, Result}
use Rattle.cs_value.specs.declared.catalog.TableDef.{TableDef}
use Rattle.cs_store.specs.declared.store.RowStore.{Ghosts}
use Rattle.cs_pending.specs.Calls.{WritesStore}
use Rattle.cs_opening.specs.declared.fault.OpenFault.{OpenFault}
use Rattle.cs_opening.specs.declared.fault.OpenFault.TheVariants.{Device}
use Rattle.cs_hub.specs.log_opening.Opens.{IsSameOrFirst}

-- the store was laid out, in one commit, or it was not written
abbrev pub Opens : {S : Type 0} → Ghosts S → List TableDef → S → S → Result (Unit {0}) OpenFault → Type 0
Opens g opening old new result =
    WritesStore g Device (Unit {0}) (IsSameOrFirst opening (g.contents old)) old new result
