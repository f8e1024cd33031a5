use Rattle.std.proofs.Common.{◌<◌, ◌+◌, List, drop, length, map, arith, subst, sym, ap}
use Rattle.std.proofs.lemmas.List.{drop_all}
use Rattle.cs_store.specs.declared.fault.StoreFault.TheVariants.{Device}
use Rattle.cs_pending.specs.position.Shows.{base}
use Rattle.cs_exchange.specs.taking.Steps.{HasBad, IsPlaced, site_task, task_of}
use Rattle.cs_apply.specs.declared.placement.placed.Placed.{Placed}
use Rattle.cs_exchange.proofs.TakingLemmas.Rest.{all_here, drop_here, read_failed, read_more, read_then, still_shows}
use Rattle.cs_exchange.proofs.TakingLemmas.Surveyed.{bad_behind, bad_first, sites_all, sites_more}
use Rattle.cs_exchange.proofs.taking.reading.survey.Goals as goal

pub survey_one-requires : goal.survey_one-requires
survey_one-requires g c =
    all_here (IsPlaced c.args.catalog.now) c.args.places.now c.loop-placed.placed-index c.placed-item.result (omega (arith, c.loop-placed-test.true)) c.placed-item.is c.requires

pub loop-placed-preserved : goal.loop-placed-preserved
loop-placed-preserved g c =
    let tables = c.args.catalog.now in
    let places = c.args.places.now in
    let at = c.loop-placed.placed-index in
    let x = c.placed-item.result in
    let rest = map task_of (drop (at + 1) places) in
    let less : at < length places = omega (arith, c.loop-placed-test.true) in
    let parts = drop_here places at x less c.placed-item.is in
    let so_far = c.loop-placed.invariant.read in
    record {
      read = read_more g.S.RowStore tables c.args.store.now c.loop-placed.store so_far Device c.survey_one.new.store c.in-Ok-true.field-0 c.in-Ok-true.ensures.reads;
      tasks = sites_more (map site_task c.loop-placed.sites.items) (map site_task c.survey_one.new.sites.items) (task_of x) rest (map task_of (drop at places)) _
          (c.in-Ok-true.ensures.tasks c.in-Ok-true.field-0-test) (ap (λ (ps : List Placed). map task_of ps) parts) c.loop-placed.invariant.tasks;
      placed = λ old. c.in-Ok-true.ensures.placed (c.loop-placed.invariant.placed old);
      on = λ honest seen shows on.
          let was = c.in-Ok-true.ensures.reads.was_honest honest in
          let still = still_shows g.S.RowStore tables c.args.store.now c.loop-placed.store so_far was seen shows in
          (rw c.in-Ok-true.field-0-test at c.in-Ok-true.ensures.surveyed) honest seen still (c.loop-placed.invariant.on was seen shows on);
      bad = λ log bad. c.loop-placed.invariant.bad log
          (subst (λ (ps : List Placed). HasBad log (map task_of ps)) (sym parts) (bad_behind log (task_of x) rest bad));
    }

pub returns-in-Ok-false-clause-reads : goal.returns-in-Ok-false-clause-reads
returns-in-Ok-false-clause-reads g c =
    read_then g.S.RowStore c.args.catalog.now c.args.store.now c.loop-placed.store c.loop-placed.invariant.read Device c.survey_one.new.store c.in-Ok-false.field-0 _ c.in-Ok-false.ensures.reads

pub returns-in-Ok-false-clause-surveyed : goal.returns-in-Ok-false-clause-surveyed
returns-in-Ok-false-clause-surveyed g c = λ honest seen shows on.
    let places = c.args.places.now in
    let at = c.loop-placed.placed-index in
    let x = c.placed-item.result in
    let log = base c.args.flight.now seen in
    let less : at < length places = omega (arith, c.loop-placed-test.true) in
    let so_far = c.loop-placed.invariant.read in
    let was = c.in-Ok-false.ensures.reads.was_honest honest in
    let still = still_shows g.S.RowStore c.args.catalog.now c.args.store.now c.loop-placed.store so_far was seen shows in
    let bad = (rw c.in-Ok-false.field-0-test at c.in-Ok-false.ensures.surveyed) honest seen still (c.loop-placed.invariant.on was seen shows on) in
    c.loop-placed.invariant.bad log
    (subst (λ (ps : List Placed). HasBad log (map task_of ps)) (sym (drop_here places at x less c.placed-item.is)) (bad_first log (task_of x) (map task_of (drop (at + 1) places)) bad))

pub returns-in-Err-clause-reads : goal.returns-in-Err-clause-reads
returns-in-Err-clause-reads g c =
    read_failed g.S.RowStore c.args.catalog.now c.args.store.now c.loop-placed.store c.loop-placed.invariant.read Device c.in-Err.fault c.survey_one.new.store c.in-Err.ensures.reads

pub returns-clause-tasks : goal.returns-clause-tasks
returns-clause-tasks g c = λ all.
    let places = c.args.places.now in
    let at = c.loop-placed.placed-index in
    sites_all (map site_task c.loop-placed.sites.items) (map task_of (drop at places)) _ (ap (λ (ps : List Placed). map task_of ps) (drop_all at places (omega (arith, c.loop-placed-test.false)))) c.loop-placed.invariant.tasks
