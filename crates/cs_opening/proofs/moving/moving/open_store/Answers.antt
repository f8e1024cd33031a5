use Rattle.std.proofs.Common.{refl, subst}
use Rattle.cs_store.specs.Contents.{Contents}
use Rattle.cs_opening.specs.Opens.{IsOpenFault}
use Rattle.cs_opening.proofs.MovingLemmas.Planned.{store_fault}
use Rattle.cs_opening.proofs.moving.moving.open_store.Goals as goal

pub returns-in-Err-open_at-clause-refused : goal.returns-in-Err-open_at-clause-refused
returns-in-Err-open_at-clause-refused g c = λ honest.
    let was = c.in-Err-open_at.ensures.writes.was_honest honest in
    store_fault c.args.catalog.now c.args.id (g.S.RowStore.contents c.args.store.now) ((rw c.in-Ok-None.field-0-is at c.in-Ok-None.ensures.none) was refl) c.in-Err-open_at.fault
    (subst (λ (left : Contents). IsOpenFault c.args.catalog.now c.args.id left c.in-Err-open_at.fault) (c.in-Ok-None.ensures.reads.same was) (c.in-Err-open_at.ensures.refused honest))
