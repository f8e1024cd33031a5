-- The laws of what a store's log decodes to.
use Rattle.std.specs.Prelude.{◌≡◌, ◌↔◌, ℕ, false, List, [], ◌∷◌, ◌++◌, map}
use Rattle.cs_value.specs.Catalog.{AreTables}
use Rattle.cs_value.specs.declared.catalog.TableDef.{TableDef}
use Rattle.cs_store.specs.log.Log.{catalog_of}
use Rattle.cs_store.specs.log.Stored.{AreEntriesOf, stored_body}
use Rattle.cs_store.specs.Contents.{Contents, HasEachEntry, log_count, log_range}
use Rattle.cs_store.specs.Whole.{AreJudged, Decodes, log_bodies}
use Rattle.cs_store.specs.declared.log.entry.LogEntry.{LogEntry}

-- bodies leave one list of tables
abbrev pub OnePresent : Type 0
OnePresent =
    (opening some other : List TableDef) (bodies : List (List ℕ))
    → AreTables opening
    → Decodes opening bodies some
    → Decodes opening bodies other
    → some ≡ other

-- which is a catalog
abbrev pub PresentAreTables : Type 0
PresentAreTables =
    (opening present : List TableDef) (bodies : List (List ℕ))
    → AreTables opening
    → Decodes opening bodies present
    → AreTables present

-- bodies and more behind them decode exactly where the first ones do, and the others from what these leave
abbrev pub DecodesOn : Type 0
DecodesOn =
    (opening present : List TableDef) (bodies more : List (List ℕ))
    → Decodes opening (bodies ++ more) present
    ↔ ((middle : List TableDef) × Decodes opening bodies middle × Decodes middle more present)

-- where the first ones do and the next one doesn't behind them, no list that goes on with it does
abbrev pub RefusedOn : Type 0
RefusedOn =
    (opening middle present : List TableDef) (front : List (List ℕ)) (bytes : List ℕ) (more : List (List ℕ))
    → AreTables opening
    → Decodes opening front middle
    → AreJudged middle (bytes ∷ []) false present
    → AreJudged opening (front ++ bytes ∷ more) false present

-- the entries of a log, as they are stored, decode, and leave the log's catalog
abbrev pub LogDecodes : Type 0
LogDecodes =
    (opening : List TableDef) (log : List LogEntry)
    → AreEntriesOf opening log
    → Decodes opening (map (λ entry. stored_body entry.body) log) (catalog_of opening log)

-- where an entry stands at each version below their count, the log's bodies are those of the entries in order
abbrev pub BodiesInOrder : Type 0
BodiesInOrder =
    (contents : Contents)
    → HasEachEntry contents
    → log_bodies contents ≡ map (λ item. item.body) (log_range contents 0 (log_count contents))
