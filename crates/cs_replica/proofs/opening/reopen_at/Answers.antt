use Rattle.cs_replica.proofs.Reopened.{none_told, not_reopened, reopened, same_position}
use Rattle.cs_replica.proofs.opening.reopen_at.Goals as goal

pub returns-in-Ok-clause-reopens : goal.returns-in-Ok-clause-reopens
returns-in-Ok-clause-reopens g c = λ shown.
    reopened g.S.RowStore c.openings.ensures.some c.args.catalog.now c.args.position.now c.args.store.now c.open_at.new.store c.args.position.now.id shown c.in-Ok.read c.in-Ok.ensures.writes

pub returns-in-Ok-clause-same : goal.returns-in-Ok-clause-same
returns-in-Ok-clause-same g c = λ honest shown.
    same_position c.openings.ensures.some c.args.catalog.now c.args.position.now (g.S.RowStore.contents c.args.store.now) shown
    c.openings.ensures.one c.tables.ensures.tables c.in_range.ensures (g.S.RowStore.contents c.open_at.new.store) c.in-Ok.read (c.in-Ok.ensures.opened honest)

pub returns-in-Err-clause-reopens : goal.returns-in-Err-clause-reopens
returns-in-Err-clause-reopens g c = λ shown.
    not_reopened g.S.RowStore c.openings.ensures.some c.args.catalog.now c.args.position.now c.args.store.now c.open_at.new.store c.args.position.now.id shown c.in-Err.fault c.in-Err.ensures.writes

pub returns-in-Err-clause-refused : goal.returns-in-Err-clause-refused
returns-in-Err-clause-refused g c = λ honest shown.
    none_told c.openings.ensures.some c.args.catalog.now c.args.position.now (g.S.RowStore.contents c.args.store.now) shown
    c.openings.ensures.opened c.tables.ensures.tables (rw c.tables.ensures.same at c.are_named.ensures) c.in_range.ensures c.in-Err.fault (c.in-Err.ensures.refused honest)
