use Rattle.std.proofs.Common.{None, refl}
use Rattle.cs_store.specs.declared.batch.Batch.{Batch}
use Rattle.cs_pending.specs.Storing.{committed, not_committed}
use Rattle.cs_hub.proofs.LogOpeningLemmas.First.{laid_out}
use Rattle.cs_hub.proofs.log_opening.fresh.lay_out.Goals as goal

pub returns-in-Ok : goal.returns-in-Ok
returns-in-Ok g c =
    let batch : Batch = record { rows = c.new.result; pending = c.new-2.result; meta = c.in_ok-hub_values.field-0; log = None } in
    record {
      writes = committed g.S.RowStore _ _ _ _ c.args.store.now c.commit.new.self _ _
          (λ honest. laid_out c.args.catalog.now batch c.empty_is_log.ensures c.commits.ensures.meta c.commits.ensures.other_names c.new.ensures c.new-2.ensures refl c.in_ok-hub_values.ensures (g.S.RowStore.contents c.args.store.now))
          c.in-Ok.ensures;
    }

pub returns : goal.returns
returns g c =
    let batch : Batch = record { rows = c.new.result; pending = c.new-2.result; meta = c.in_ok-hub_values.field-0; log = None } in
    record {
      writes = not_committed g.S.RowStore _ _ _ _ c.args.store.now c.commit.new.self
          (λ honest. laid_out c.args.catalog.now batch c.empty_is_log.ensures c.commits.ensures.meta c.commits.ensures.other_names c.new.ensures c.new-2.ensures refl c.in_ok-hub_values.ensures (g.S.RowStore.contents c.args.store.now))
          c.in-Err.ensures;
    }
