use Rattle.std.proofs.Common.{arith}
use Rattle.cs_hub.specs.log_store.Versions.{tables_by}
use Rattle.cs_hub.proofs.LogReadingLemmas.Found.{read_all, read_more, stored_at, unread}
use Rattle.cs_hub.proofs.log_reading.reading.read_each.Goals as goal

pub returns-in-Err-clause-unread : goal.returns-in-Err-clause-unread
returns-in-Err-clause-unread c = λ entries are.
    let at = stored_at (tables_by c.args.catalogs.now) c.args.first c.args.stored.now entries c.loop-index.index c.index-stored-index.result (omega (arith, c.loop-index-test.true)) c.index-stored-index.is are in
    unread at.0 c.in-Err.fault ((rw c.at.ensures at c.in-Err.ensures.only) at.0 at.1)

pub loop-index-preserved : goal.loop-index-preserved
loop-index-preserved c = λ entries are.
    let at = stored_at (tables_by c.args.catalogs.now) c.args.first c.args.stored.now entries c.loop-index.index c.index-stored-index.result (omega (arith, c.loop-index-test.true)) c.index-stored-index.is are in
    read_more c.loop-index.index entries at.0 c.in-Ok.read c.loop-index.entries.items c.push.new.self.items at.2 (c.loop-index.invariant entries are) ((rw c.at.ensures at c.in-Ok.ensures.only) at.0 at.1) c.in_ok-push-in-Ok.ensures.items

pub returns-clause-read : goal.returns-clause-read
returns-clause-read c = λ entries are.
    read_all (tables_by c.args.catalogs.now) c.args.first c.loop-index.index c.args.stored.now entries c.loop-index.entries.items (omega (arith, c.loop-index-test.false, c.loop-index.auto.index-end)) are (c.loop-index.invariant entries are)
