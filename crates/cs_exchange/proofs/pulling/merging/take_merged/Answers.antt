use Rattle.std.proofs.Common.{Err, ap, arith}
use Rattle.cs_pending.specs.Storing.{err_is, no_call, then_not_written, then_written}
use Rattle.cs_exchange.specs.declared.taking.fault.TakeFault.TheVariants as take
use Rattle.cs_exchange.specs.declared.pulling.fault.PullFault.TheVariants.{Device}
use Rattle.cs_exchange.proofs.PullingLemmas.AtOnce.{merge_refused}
use Rattle.cs_exchange.proofs.PullingLemmas.Next.{was_device}
use Rattle.cs_exchange.proofs.pulling.merging.take_merged.Goals as goal

pub returns-in-Ok-clause-writes : goal.returns-in-Ok-clause-writes
returns-in-Ok-clause-writes g c =
    then_written g.S.RowStore _ _ _ _ _ c.args.store.now c.args.store.now c.take_changes_to.new.store
    (λ some. some) (λ honest some. some) (λ honest left is. is) (no_call g.S.RowStore _ c.args.store.now)
    take.Device Device c.in-Ok.field-0 tt c.in-Ok.ensures.writes

pub returns-in-Err-clause-writes : goal.returns-in-Err-clause-writes
returns-in-Err-clause-writes g c =
    let told = c.from.ensures in
    then_not_written g.S.RowStore _ _ _ _ _ c.args.store.now c.args.store.now c.take_changes_to.new.store
    (λ some. some) (λ honest some. some) (λ honest left is. is) (no_call g.S.RowStore _ c.args.store.now)
    take.Device c.in-Err.fault Device c.from.result (was_device c.in-Err.fault c.from.result told.0 told.1 told.2) c.in-Err.ensures.writes

pub returns-in-Err-clause-refused : goal.returns-in-Err-clause-refused
returns-in-Err-clause-refused g c = λ honest view shows.
    let told = c.from.ensures in
    merge_refused g.P.Picker.picks c.args.catalog.now c.args.position.now c.args.first c.args.next c.args.changes.now view c.args.picker.now c.take_changes_to.new.picker (omega arith)
    c.in-Err.fault c.from.result told.0 told.1 told.2 told.3
    (λ is. c.in-Err.ensures.bad honest view shows (ap (λ f. Err f) is)) (λ is. c.in-Err.ensures.unasked (ap (λ f. Err f) is)) (λ below. err_is c.in-Err.fault take.BadEntry (c.in-Err.ensures.last below)) (c.in-Err.ensures.stopped honest view shows)
