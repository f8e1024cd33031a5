use Rattle.cs_pending.specs.Storing.{went_well}
use Rattle.cs_hub.proofs.AppendingLemmas.Batches.{still, then_wrote, then_wrote_not, was_device}
use Rattle.cs_hub.proofs.appending.appending.append.Goals as goal

pub append_tried-requires : goal.append_tried-requires
append_tried-requires g c = record {
  tried = still g.S.RowStore c.args.catalogs.now c.args.entry.now
      c.args.store.now c.try_entry.new.store c.try_entry.new.store
      (went_well g.S.RowStore _ _ _ _ _ c.in-Ok.ensures.reads)
      c.in-Ok.batch c.in-Ok.ensures.tried;
}

pub returns-in-Ok-append_tried-clause-writes : goal.returns-in-Ok-append_tried-clause-writes
returns-in-Ok-append_tried-clause-writes g c =
    then_wrote g.S.RowStore c.args.catalogs.now c.args.entry.now
    c.args.store.now c.try_entry.new.store c.append_tried.new.store
    (went_well g.S.RowStore _ _ _ _ _ c.in-Ok.ensures.reads)
    _ _ c.in-Ok-append_tried.ensures.writes

pub returns-clause-writes : goal.returns-clause-writes
returns-clause-writes g c =
    then_wrote_not g.S.RowStore c.args.catalogs.now c.args.entry.now
    c.args.store.now c.try_entry.new.store c.append_tried.new.store
    (went_well g.S.RowStore _ _ _ _ _ c.in-Ok.ensures.reads)
    c.in-Err-append_tried.fault c.from.result (was_device c.in-Err-append_tried.fault c.from.result c.from.ensures) c.in-Err-append_tried.ensures.writes
