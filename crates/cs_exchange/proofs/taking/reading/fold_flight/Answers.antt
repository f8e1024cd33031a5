use Rattle.std.proofs.Common.{◌<◌, ◌+◌, drop, length, arith}
use Rattle.std.proofs.lemmas.List.{drop_all}
use Rattle.cs_store.specs.declared.fault.StoreFault.TheVariants.{Device}
use Rattle.cs_pending.specs.Settled.{Catalogs}
use Rattle.cs_pending.specs.Storing.{no_call}
use Rattle.cs_exchange.specs.taking.Steps.{IsPlaced}
use Rattle.cs_exchange.proofs.TakingLemmas.Folded.{folds_begin, folds_end, folds_more}
use Rattle.cs_exchange.proofs.TakingLemmas.Rest.{all_here, drop_here, read_failed, read_more, still_shows}
use Rattle.cs_exchange.proofs.taking.reading.fold_flight.Goals as goal

pub loop-placed-init : goal.loop-placed-init
loop-placed-init g c = record {
  read = no_call g.S.RowStore _ c.args.store.now;
  within = λ within. within;
  folds = λ honest seen shows contents begun view ready settles.
      folds_begin c.args.catalog.now c.args.flight.now seen contents begun c.args.places.now view c.args.settling.now ready settles;
}

pub fold_one-requires : goal.fold_one-requires
fold_one-requires g c =
    all_here (IsPlaced c.args.catalog.now) c.args.places.now c.loop-placed.placed-index c.placed-item.result (omega (arith, c.loop-placed-test.true)) c.placed-item.is c.requires

pub loop-placed-preserved : goal.loop-placed-preserved
loop-placed-preserved g c =
    let tables = c.args.catalog.now in
    let places = c.args.places.now in
    let at = c.loop-placed.placed-index in
    let x = c.placed-item.result in
    let less : at < length places = omega (arith, c.loop-placed-test.true) in
    let so_far = c.loop-placed.invariant.read in
    let law : Catalogs tables = record { are = c.tables-tables.ensures.tables; one = c.catalogs.ensures.place; key = c.one_key_stands.ensures; net_takes = c.net_takes.ensures } in
    record {
      read = read_more g.S.RowStore tables c.args.store.now c.loop-placed.store so_far Device c.fold_one.new.store c.in-Ok.field-0 c.in-Ok.ensures.reads;
      within = λ within. c.in-Ok.ensures.within (c.loop-placed.invariant.within within);
      folds = λ honest seen shows contents begun view ready settles.
          let was = c.in-Ok.ensures.reads.was_honest honest in
          let still = still_shows g.S.RowStore tables c.args.store.now c.loop-placed.store so_far was seen shows in
          folds_more tables c.args.flight.now seen contents begun places view law (drop at places) x (drop (at + 1) places) c.loop-placed.settling c.fold_one.new.settling
          (drop_here places at x less c.placed-item.is) (all_here (IsPlaced tables) places at x less c.placed-item.is c.requires)
          (λ mid ts one settled. c.in-Ok.ensures.folded honest seen still contents begun mid ts one settled)
          (c.loop-placed.invariant.folds was seen shows contents begun view ready settles);
    }

pub returns-in-Err-clause-reads : goal.returns-in-Err-clause-reads
returns-in-Err-clause-reads g c =
    read_failed g.S.RowStore c.args.catalog.now c.args.store.now c.loop-placed.store c.loop-placed.invariant.read Device c.in-Err.fault c.fold_one.new.store c.in-Err.ensures.reads

pub returns-clause-folded : goal.returns-clause-folded
returns-clause-folded g c = λ honest seen shows contents begun view ready settles.
    let places = c.args.places.now in
    folds_end c.args.catalog.now c.args.flight.now seen contents begun places view (drop c.loop-placed.placed-index places) c.loop-placed.settling
    (drop_all c.loop-placed.placed-index places (omega (arith, c.loop-placed-test.false)))
    (c.loop-placed.invariant.folds honest seen shows contents begun view ready settles)
