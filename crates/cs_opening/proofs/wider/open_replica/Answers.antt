use Rattle.std.proofs.Common.{subst}
use Rattle.cs_store.specs.Contents.{Contents}
use Rattle.cs_store.specs.declared.fault.StoreFault.TheVariants as stored
use Rattle.cs_pending.specs.Storing.{then_written, went_well}
use Rattle.cs_opening.specs.Wider.{MayBeOpened}
use Rattle.cs_opening.specs.moving.Moved.{IsSameOrOpened, IsStoreFault, IsStoreOpened}
use Rattle.cs_opening.specs.declared.fault.OpenFault.TheVariants.{Device}
use Rattle.cs_opening.proofs.Kept.{refuses}
use Rattle.cs_opening.proofs.wider.open_replica.Goals as goal

pub returns-in-Ok-open_store-clause-writes : goal.returns-in-Ok-open_store-clause-writes
returns-in-Ok-open_store-clause-writes g c =
    let store = g.S.RowStore in
    let old = c.args.store.now in
    let middle = c.opening_tables.new.store in
    let reads = c.in-Ok.ensures.reads in
    then_written store (IsSameOrOpened c.in-Ok.catalog c.args.id (store.contents middle)) (MayBeOpened c.args.handed.now c.args.id (store.contents old)) (Unit {0}) (Unit {0}) (Unit {0}) old middle c.open_store.new.store
    (λ r. r) (λ h r. r) (λ h left is. (c.in-Ok.catalog, c.in-Ok.ensures.told h, subst (λ (held : Contents). IsSameOrOpened c.in-Ok.catalog c.args.id held left) (reads.same h) is))
    (went_well store stored.Device (Unit {0}) old middle c.in-Ok.catalog reads) Device Device c.in-Ok-open_store.position _ c.in-Ok-open_store.ensures.writes

pub returns-in-Ok-open_store-clause-opened : goal.returns-in-Ok-open_store-clause-opened
returns-in-Ok-open_store-clause-opened g c = λ honest.
    let was = c.in-Ok-open_store.ensures.writes.was_honest honest in (
      c.in-Ok.ensures.told was,
      subst (λ (held : Contents). IsStoreOpened c.in-Ok.catalog c.args.id held (g.S.RowStore.contents c.open_store.new.store) c.in-Ok-open_store.position) (c.in-Ok.ensures.reads.same was) (c.in-Ok-open_store.ensures.opened honest),
    )

pub returns-in-Err-open_store-clause-refused : goal.returns-in-Err-open_store-clause-refused
returns-in-Err-open_store-clause-refused g c = λ honest.
    let was = c.in-Err-open_store.ensures.writes.was_honest honest in
    refuses c.args.handed.now c.in-Ok.catalog c.args.id (g.S.RowStore.contents c.args.store.now) (c.in-Ok.ensures.told was) c.in-Err-open_store.fault
    (subst (λ (held : Contents). IsStoreFault c.in-Ok.catalog c.args.id held c.in-Err-open_store.fault) (c.in-Ok.ensures.reads.same was) (c.in-Err-open_store.ensures.refused honest))
