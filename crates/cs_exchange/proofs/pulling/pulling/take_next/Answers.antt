use Rattle.std.proofs.Common.{refl}
use Rattle.cs_store.specs.declared.fault.StoreFault.TheVariants as stored
use Rattle.cs_pending.specs.Storing.{no_call, then_not_written, then_written}
use Rattle.cs_pending.specs.position.Shows.{ShowsSomeAt}
use Rattle.cs_exchange.specs.declared.pulling.fault.PullFault.TheVariants.{Device}
use Rattle.cs_exchange.proofs.PullingLemmas.Next.{others_not, others_pulled, own_pulled, was_device, was_stored}
use Rattle.cs_exchange.proofs.pulling.pulling.take_next.Goals as goal

pub returns-in-Ok-take_body-clause-writes : goal.returns-in-Ok-take_body-clause-writes
returns-in-Ok-take_body-clause-writes g c =
    others_pulled g.P.Picker.picks g.S.RowStore
    c.args.catalog.now c.args.position.now c.args.entry.now c.args.picker.now c.take_body.new.picker (ShowsSomeAt c.args.catalog.now c.args.position.now (g.S.RowStore.contents c.args.store.now)) c.args.store.now c.take_body.new.store
    (c.if-is_last.ensures.next refl) (λ own. let e = c.if-is_own.ensures.1 own in cc)
    c.in-Ok-take_body.field-0 c.in-Ok-take_body.ensures.writes

pub returns-in-Err-take_body-clause-writes : goal.returns-in-Err-take_body-clause-writes
returns-in-Err-take_body-clause-writes g c =
    let told = c.from-in-Err-take_body.ensures in
    others_not g.P.Picker.picks g.S.RowStore
    c.args.catalog.now c.args.position.now c.args.entry.now c.args.picker.now c.take_body.new.picker (ShowsSomeAt c.args.catalog.now c.args.position.now (g.S.RowStore.contents c.args.store.now)) c.args.store.now c.take_body.new.store
    (c.if-is_last.ensures.next refl) (λ own. let e = c.if-is_own.ensures.1 own in cc)
    c.in-Err-take_body.fault c.from-in-Err-take_body.result (was_device c.in-Err-take_body.fault c.from-in-Err-take_body.result told.0 told.1 told.2) c.in-Err-take_body.ensures.writes

pub returns-in-Ok-clause-writes : goal.returns-in-Ok-clause-writes
returns-in-Ok-clause-writes g c =
    let readable = ShowsSomeAt c.args.catalog.now c.args.position.now (g.S.RowStore.contents c.args.store.now) in
    then_written g.S.RowStore _ _ readable readable readable c.args.store.now c.args.store.now c.confirm.new.store (λ some. some) (λ honest some. some)
    (λ honest left confirmed. own_pulled g.P.Picker.picks c.args.catalog.now c.args.position.now c.args.entry.now c.args.picker.now (g.S.RowStore.contents c.args.store.now) left (c.if-is_last.ensures.next refl) (c.if-is_own.ensures.0 refl) confirmed)
    (no_call g.S.RowStore readable c.args.store.now) stored.Device Device c.in-Ok.field-0 tt c.in-Ok.ensures.writes

pub returns-in-Err-clause-writes : goal.returns-in-Err-clause-writes
returns-in-Err-clause-writes g c =
    let readable = ShowsSomeAt c.args.catalog.now c.args.position.now (g.S.RowStore.contents c.args.store.now) in
    then_not_written g.S.RowStore _ _ readable readable readable c.args.store.now c.args.store.now c.confirm.new.store (λ some. some) (λ honest some. some)
    (λ honest left confirmed. own_pulled g.P.Picker.picks c.args.catalog.now c.args.position.now c.args.entry.now c.args.picker.now (g.S.RowStore.contents c.args.store.now) left (c.if-is_last.ensures.next refl) (c.if-is_own.ensures.0 refl) confirmed)
    (no_call g.S.RowStore readable c.args.store.now) stored.Device c.in-Err.fault Device c.from.result (was_stored c.in-Err.fault c.from.result c.from.ensures.0) c.in-Err.ensures.writes
