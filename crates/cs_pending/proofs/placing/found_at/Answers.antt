use Rattle.cs_pending.specs.Steps.{settles_none}
use Rattle.cs_pending.specs.Storing.{reads_if}
use Rattle.cs_pending.proofs.Staged.{stands_shown}
use Rattle.cs_pending.proofs.placing.found_at.Goals as goal

pub returns-clause-reads : goal.returns-clause-reads
returns-clause-reads g c =
    reads_if g.S.RowStore _ _ _ c.args.store.now c.found_behind.new.store c.found_behind.result
    (λ some. (0, some.0, settles_none c.args.catalog.now (g.S.RowStore.contents c.args.store.now) 0 c.new-none.result some.0 c.new-none.ensures.rows c.new-none.ensures.pending c.new-none.ensures.count some.1))
    c.found_behind.ensures.reads

pub returns-clause-found : goal.returns-clause-found
returns-clause-found g c = λ honest.
    stands_shown c.args.catalog.now (g.S.RowStore.contents c.args.store.now) c.args.place.now.table.now c.args.place.now.key.now c.found_behind.result
    (λ view shows. c.found_behind.ensures.found honest 0 view
    (settles_none c.args.catalog.now (g.S.RowStore.contents c.args.store.now) 0 c.new-none.result view c.new-none.ensures.rows c.new-none.ensures.pending c.new-none.ensures.count shows))
