use Rattle.std.proofs.Common.{◌-◌}
use Rattle.cs_store.specs.declared.log.entry.TheConstants.{MAX_ENTRIES}
use Rattle.cs_nodes.specs.books.Books.{IsLater}
use Rattle.cs_nodes.proofs.books.book.Book.catch_up.Given as goal

-- what was taken so far
abbrev pub invariant-entries : goal.invariant-entries
invariant-entries g l = record {
  later : IsLater g.S.RowStore (Unit {0}) l.fn.self l.self;
}

abbrev pub decreases-entries : goal.decreases-entries
decreases-entries g l = MAX_ENTRIES - l.self.hub.newest
