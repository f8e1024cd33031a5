use Rattle.cs_nodes.proofs.FollowingLemmas.Along.{along_failed, along_more, along_none, along_tables}
use Rattle.cs_nodes.proofs.following.taking.take_known.Goals as goal

pub loop-at-init : goal.loop-at-init
loop-at-init g c = record {
  ready = c.requires.ready;
  along = along_none g.P.Picker.picks g.S.RowStore
      c.args.pass.now.known c.args.replica.now c.args.picker.now _ c.version-first.ensures c.requires.within;
}

pub returns-in-Err-clause-writes : goal.returns-in-Err-clause-writes
returns-in-Err-clause-writes g c =
    along_failed g.P.Picker.picks g.S.RowStore
    c.args.pass.now.known c.args.replica.now c.args.picker.now c.loop-at.at c.loop-at.replica c.take_standing.new.replica c.loop-at.picker c.take_standing.new.picker c.loop-at.invariant.along
    c.entry.result.now c.entry.ensures c.in-Err.fault c.in-Err.ensures.kept c.in-Err.ensures.catalog c.in-Err.ensures.writes _ _ (λ done. absurd (let d = done in cc)) (λ is. let i = is in cc)

pub loop-at-preserved : goal.loop-at-preserved
loop-at-preserved g c = record {
  ready = c.take_standing.ensures.ready;
  along = along_more g.P.Picker.picks g.S.RowStore
      c.args.pass.now.known c.args.replica.now c.args.picker.now c.loop-at.at c.loop-at.replica c.take_standing.new.replica c.loop-at.picker c.take_standing.new.picker c.loop-at.invariant.along
      c.entry.result.now c.entry.ensures c.in-Ok.field-0 c.in-Ok.ensures.writes c.in-Ok.ensures.moved c.in-Ok.ensures.counted c.in-Ok.ensures.wide c.in-Ok.ensures.stands;
}

pub returns-in-Err-clause-catalog : goal.returns-in-Err-clause-catalog
returns-in-Err-clause-catalog g c =
    along_tables g.P.Picker.picks g.S.RowStore
    c.args.pass.now.known c.args.replica.now c.args.picker.now c.loop-at.at c.loop-at.replica c.take_standing.new.replica c.loop-at.picker c.take_standing.new.picker c.loop-at.invariant.along
    c.entry.result.now c.entry.ensures c.in-Err.fault c.in-Err.ensures.kept c.in-Err.ensures.catalog c.in-Err.ensures.writes
