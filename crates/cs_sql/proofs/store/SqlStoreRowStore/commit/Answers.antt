use Rattle.std.proofs.Common.{refl}
use Rattle.cs_sql.proofs.Whole.{commit_failed, undone_steady, written_steady}
use Rattle.cs_sql.proofs.store.SqlStoreRowStore.commit.Goals as goal

pub invariant_of-self : goal.invariant_of-self
invariant_of-self g c =
    let inside = c.self.inside in
    let steady = written_steady g.A.Store (record { conn = inside.conn; last = inside.last.value; log = inside.log; failures = inside.failures; misreads = inside.misreads }) c.commit_batch.new.conn c.args.batch.now
    (record { entries = c.in-Some.entries; is_whole = inside.log.is_whole }) c.self.invariant c.commit_batch.ensures.survives c.in-Some.ensures.0 refl c.in-Some.ensures.1 c.commit_batch.ensures.idle c.in-Ok.ensures.ok c.in-Ok.ensures.free in
    rw c.of.ensures steady

pub invariant_of-self-in-Err : goal.invariant_of-self-in-Err
invariant_of-self-in-Err g c =
    let inside = c.self.inside in
    undone_steady g.A.Store (record { conn = inside.conn; last = inside.last.value; log = inside.log; failures = inside.failures; misreads = inside.misreads }) c.commit_batch.new.conn c.args.batch.now
    (record { entries = c.in-Some.entries; is_whole = inside.log.is_whole }) c.self.invariant c.commit_batch.ensures.survives c.in-Some.ensures.0 refl c.in-Some.ensures.1 c.commit_batch.ensures.idle c.in-Err.ensures.err

pub returns-in-Err : goal.returns-in-Err
returns-in-Err g c =
    let inside = c.self.inside in
    rw (← c.self.view_is) (commit_failed g.A.Store (record { conn = inside.conn; last = inside.last.value; log = inside.log; failures = inside.failures; misreads = inside.misreads }) c.commit_batch.new.conn c.args.batch.now
    c.fault_of.new.failures c.fault_of.result c.self.invariant c.commit_batch.ensures.survives c.fault_of.ensures.told)
