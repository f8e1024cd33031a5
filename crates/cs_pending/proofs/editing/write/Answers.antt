use Rattle.std.proofs.Common.{None, refl}
use Rattle.cs_store.specs.declared.batch.Batch.{Batch}
use Rattle.cs_pending.proofs.Staged.{settled_in, settled_none}
use Rattle.cs_pending.specs.Storing.{committed, not_committed, nothing_written}
use Rattle.cs_pending.proofs.editing.write.Goals as goal

pub returns-then-is_empty-clause-writes : goal.returns-then-is_empty-clause-writes
returns-then-is_empty-clause-writes g c =
    let none = c.is_empty.ensures.0 c.if-is_empty.true in
    nothing_written g.S.RowStore _ _ _ c.args.store.now _ (λ honest. settled_none c.args.catalog.now c.args.settling (g.S.RowStore.contents c.args.store.now) none.0 none.1)

pub returns-in-Ok-clause-writes : goal.returns-in-Ok-clause-writes
returns-in-Ok-clause-writes g c =
    let batch : Batch = record { rows = c.args.settling.rows; pending = c.args.settling.pending; meta = c.new.result; log = None } in
    committed g.S.RowStore _ _ _ _ c.args.store.now c.commit.new.self _ _
    (λ honest. settled_in c.commits.ensures.rows c.commits.ensures.pending c.commits.ensures.other_rows c.commits.ensures.other_pending
    c.args.catalog.now c.args.settling (g.S.RowStore.contents c.args.store.now) batch refl refl c.new.ensures.items refl c.requires)
    c.in-Ok.ensures

pub returns-clause-writes : goal.returns-clause-writes
returns-clause-writes g c =
    let batch : Batch = record { rows = c.args.settling.rows; pending = c.args.settling.pending; meta = c.new.result; log = None } in
    not_committed g.S.RowStore _ _ _ _ c.args.store.now c.commit.new.self
    (λ honest. settled_in c.commits.ensures.rows c.commits.ensures.pending c.commits.ensures.other_rows c.commits.ensures.other_pending
    c.args.catalog.now c.args.settling (g.S.RowStore.contents c.args.store.now) batch refl refl c.new.ensures.items refl c.requires)
    c.in-Err.ensures
