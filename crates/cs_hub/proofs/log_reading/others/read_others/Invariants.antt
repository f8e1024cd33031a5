use Rattle.std.proofs.Common.{◌≡◌, ℕ, List, length}
use Rattle.std.specs.List.{All}
use Rattle.cs_value.specs.declared.catalog.TableDef.{TableDef}
use Rattle.cs_store.specs.Written.{items_of}
use Rattle.cs_store.specs.declared.log.entry.LogEntry.{LogEntry as Entry}
use Rattle.cs_store.specs.log.Stored.{AreChangesOf}
use Rattle.cs_hub.specs.log_reading.Steps.{AreStoredAs}
use Rattle.cs_hub.proofs.LogReadingLemmas.Others.{AreCounted, AreOthersSoFar}
use Rattle.cs_hub.proofs.log_reading.others.read_others.Given as goal

-- the changesets are those of the first entries, none of which is told alone
abbrev pub invariant-loop-entry : goal.invariant-loop-entry
invariant-loop-entry l = record {
  read : (entries : List Entry) (tables : ℕ → List TableDef) (first : ℕ) → tables first ≡ l.fn.catalog → AreStoredAs tables first (items_of l.fn.stored) entries
      → AreOthersSoFar l.fn.asker l.entry-index entries l.changesets.items;
  fit : All (AreChangesOf l.fn.catalog) l.changesets.items;
  few : length l.changesets.items ≡ l.entry-index;
  counted : AreCounted l.changesets.items l.bytes;
}
