-- The laws of opening a hub.
use Rattle.std.specs.Prelude.{◌≡◌, ◌≢◌, ℕ, List, IsUtf8}
use Rattle.std.specs.List.{AllByRecursion}
use Rattle.cs_value.specs.Catalog.{AreTables}
use Rattle.cs_value.specs.declared.catalog.TableDef.{TableDef}
use Rattle.cs_store.specs.Contents.{Contents, nothing}
use Rattle.cs_store.specs.declared.log.entry.LogEntry.{LogEntry}
use Rattle.cs_hub.specs.log_store.Shows.{ShowsLog}
use Rattle.cs_opening.specs.Laws.{IsOfContents}
use Rattle.cs_opening.specs.declared.fault.OpenFault.{OpenFault}
use Rattle.cs_hub.specs.log_opening.Opens.{IsHubAt, IsHubFault, IsHubStore}

-- a store that shows a log is what a hub's store is, and holds something: it is opened, and as it is
abbrev pub HubIsOpened : Type 0
HubIsOpened =
    (opening : List TableDef) (contents : Contents) (log : List LogEntry)
    → AreTables opening
    → ShowsLog opening contents log
    → (contents ≢ nothing) × IsHubStore opening contents

-- what was held is opened with one count of entries
abbrev pub OneHubOpening : Type 0
OneHubOpening =
    (opening : List TableDef) (old new next : Contents) (some other : ℕ)
    → IsHubAt opening old new some
    → IsHubAt opening old next other
    → some ≡ other

-- it has one fault
abbrev pub OneHubFault : Type 0
OneHubFault =
    (opening : List TableDef) (old : Contents) (some other : OpenFault)
    → IsOfContents some
    → IsOfContents other
    → IsHubFault opening old some
    → IsHubFault opening old other
    → some ≡ other

-- where it is opened it has none; the names of tables are text, as those of any catalog are
abbrev pub NoHubFaultWhereOpened : Type 0
NoHubFaultWhereOpened =
    (opening : List TableDef) (old new : Contents) (count : ℕ) (fault : OpenFault)
    → AreTables opening
    → AllByRecursion (λ table. IsUtf8 table.name) opening
    → IsHubAt opening old new count
    → IsOfContents fault
    → IsHubFault opening old fault
    → ⊥

-- it can't be that it is neither opened nor has a fault
abbrev pub HubOpensOrFails : Type 0
HubOpensOrFails =
    (opening : List TableDef) (old : Contents)
    → AreTables opening
    → ((new : Contents) (count : ℕ) → IsHubAt opening old new count → ⊥)
    → ((fault : OpenFault) → IsOfContents fault → IsHubFault opening old fault → ⊥)
    → ⊥
