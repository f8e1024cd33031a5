use Rattle.std.proofs.Common.{◌≡◌, List, length, take}
use Rattle.cs_pending.specs.Storing.{WasRead}
use Rattle.cs_store.specs.declared.log.entry.LogEntry.{LogEntry as Entry}
use Rattle.cs_store.specs.log.Widens.{widens_from}
use Rattle.cs_hub.specs.log_store.Shows.{ShowsLog}
use Rattle.cs_hub.proofs.log_opening.widens.read_catalogs.Given as goal

-- the store was only read so far, and the tables are those of the log's first entries
abbrev pub invariant-loop-version : goal.invariant-loop-version
invariant-loop-version g l = record {
  read : WasRead g.S.RowStore (Unit {0}) l.fn.store l.store;
  opening : l.catalogs.opening ≡ l.fn.begun.opening;
  newest : l.catalogs.newest ≡ l.version;
  widens : g.S.RowStore.honest l.store → (log : List Entry) → ShowsLog l.fn.begun.opening (g.S.RowStore.contents l.fn.store) log → l.fn.count ≡ length log
      → l.catalogs.widens ≡ widens_from 0 (take l.version log);
}
