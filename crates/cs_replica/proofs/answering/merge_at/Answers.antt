use Rattle.std.proofs.Common.{Ok, Err, refl, inr, arith}
use Rattle.cs_pending.specs.position.Shows.{ShowsSomeAt}
use Rattle.cs_exchange.specs.pulling.Listed.{IsDeviceFault}
use Rattle.cs_exchange.specs.declared.pulling.listing.Pulled.TheVariants.{Taken, Stopped}
use Rattle.cs_replica.proofs.Answered.{told_writes}
use Rattle.cs_replica.proofs.answering.merge_at.Goals as goal

pub returns-in-Ok-Taken-clause-told : goal.returns-in-Ok-Taken-clause-told
returns-in-Ok-Taken-clause-told g c = λ honest before shows.
    inr (inr (inr ((refl, refl), omega arith, Ok (Taken c.in-Ok-Taken.count), refl, rw c.in-Ok-Taken.field-0-is at c.in-Ok-Taken.ensures.takes honest before shows)))

pub returns-in-Ok-Taken-clause-writes : goal.returns-in-Ok-Taken-clause-writes
returns-in-Ok-Taken-clause-writes g c =
    told_writes g.P.Picker.picks g.S.RowStore c.args.catalog.now c.args.next c.args.changeset.now c.args.position.now c.take_told.new.position c.args.picker.now c.args.store.now c.take_told.new.store (omega arith)
    (Unit {0}) ⊥ (ShowsSomeAt c.args.catalog.now c.args.position.now (g.S.RowStore.contents c.args.store.now))
    (λ undone. absurd (undone tt))
    (rw c.in-Ok-Taken.field-0-is at c.in-Ok-Taken.ensures.writes)

pub returns-in-Ok-Stopped-clause-told : goal.returns-in-Ok-Stopped-clause-told
returns-in-Ok-Stopped-clause-told g c = λ honest before shows.
    inr (inr (inr ((refl, refl), omega arith, Ok (Stopped c.in-Ok-Stopped.count), refl, rw c.in-Ok-Stopped.field-0-is at c.in-Ok-Stopped.ensures.takes honest before shows)))

pub returns-in-Ok-Stopped-clause-writes : goal.returns-in-Ok-Stopped-clause-writes
returns-in-Ok-Stopped-clause-writes g c =
    told_writes g.P.Picker.picks g.S.RowStore c.args.catalog.now c.args.next c.args.changeset.now c.args.position.now c.take_told.new.position c.args.picker.now c.args.store.now c.take_told.new.store (omega arith)
    ⊥ ⊥ (ShowsSomeAt c.args.catalog.now c.args.position.now (g.S.RowStore.contents c.args.store.now))
    (rw c.in-Ok-Stopped.field-0-is at c.in-Ok-Stopped.ensures.kept)
    (rw c.in-Ok-Stopped.field-0-is at c.in-Ok-Stopped.ensures.writes)

pub returns-in-Err-clause-told : goal.returns-in-Err-clause-told
returns-in-Err-clause-told g c = λ honest before shows.
    inr (inr (inr ((refl, refl), omega arith, Err c.in-Err.fault, refl, c.in-Err.ensures.takes honest before shows)))

pub returns-in-Err-clause-writes : goal.returns-in-Err-clause-writes
returns-in-Err-clause-writes g c =
    told_writes g.P.Picker.picks g.S.RowStore c.args.catalog.now c.args.next c.args.changeset.now c.args.position.now c.take_told.new.position c.args.picker.now c.args.store.now c.take_told.new.store (omega arith)
    ⊥ (IsDeviceFault c.in-Err.fault) (ShowsSomeAt c.args.catalog.now c.args.position.now (g.S.RowStore.contents c.args.store.now))
    c.in-Err.ensures.kept
    c.in-Err.ensures.writes
