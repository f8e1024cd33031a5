use Rattle.std.proofs.Common.{Err, List, ap, sym, subst, arith, inl}
use Rattle.cs_value.specs.declared.catalog.TableDef.{TableDef}
use Rattle.cs_pending.specs.position.Shows.{ShowsSomeAt}
use Rattle.cs_pending.specs.declared.position.position.Position.{Position}
use Rattle.cs_exchange.specs.pulling.Calls.{WritesInTurn}
use Rattle.cs_exchange.specs.pulling.Listed.{IsAmong, IsNextOf, PullsList, TakesAll, TellsDevice}
use Rattle.cs_exchange.proofs.PullingLemmas.Walk.{begins, end_pulls, left_of, passed, pulled_on, shorter, split_left, stopped_pulls, stopped_turn}
use Rattle.cs_exchange.proofs.pulling.listing.take_entries.Goals as goal

pub loop-next-init : goal.loop-next-init
loop-next-init g c = (
  c.requires.ready,
  begins g.P.Picker.picks c.args.first c.args.entries.now g.S.RowStore
      c.args.catalog.now c.args.position.now c.args.store.now c.args.picker.now (left_of c.split_first-next.result) (split_left c.split_first-next.result c.args.entries.now c.split_first-next.ensures),
)

pub loop-next-smaller-then-index-position-2 : goal.loop-next-smaller-then-index-position-2
loop-next-smaller-then-index-position-2 g c =
    shorter (left_of c.loop-next.next) c.in-Some.told c.in-Some.others (left_of c.split_first-next-in-Some.result) (ap left_of c.in-Some.is)
    (split_left c.split_first-next-in-Some.result c.in-Some.others c.split_first-next-in-Some.ensures)

pub loop-next-preserved-then-index-position-2 : goal.loop-next-preserved-then-index-position-2
loop-next-preserved-then-index-position-2 g c = (
  c.loop-next.invariant.0,
  passed g.P.Picker.picks c.args.first c.args.entries.now g.S.RowStore
      c.args.catalog.now c.args.position.now c.args.store.now c.args.picker.now c.loop-next.count c.loop-next.index (left_of c.loop-next.next) c.loop-next.catalog c.loop-next.position c.loop-next.store c.loop-next.picker c.loop-next.invariant.1
      c.in-Some.told c.in-Some.others (left_of c.split_first-next-in-Some.result) (ap left_of c.in-Some.is)
      (split_left c.split_first-next-in-Some.result c.in-Some.others c.split_first-next-in-Some.ensures) c.if-index-position-2.true,
)

pub loop-next-smaller : goal.loop-next-smaller
loop-next-smaller g c =
    shorter (left_of c.loop-next.next) c.in-Some.told c.in-Some.others (left_of c.split_first-next-in-Some.result) (ap left_of c.in-Some.is)
    (split_left c.split_first-next-in-Some.result c.in-Some.others c.split_first-next-in-Some.ensures)

pub loop-next-preserved : goal.loop-next-preserved
loop-next-preserved g c = (
  c.in-Ok.ensures.ready,
  pulled_on g.P.Picker.picks c.args.first c.args.entries.now g.S.RowStore
      c.args.catalog.now c.args.position.now c.args.store.now c.args.picker.now c.loop-next.count c.loop-next.index (left_of c.loop-next.next) c.loop-next.catalog c.loop-next.position c.loop-next.store c.loop-next.picker c.loop-next.invariant.1
      c.in-Some.told c.in-Some.others (left_of c.split_first-next-in-Some.result) (ap left_of c.in-Some.is)
      (split_left c.split_first-next-in-Some.result c.in-Some.others c.split_first-next-in-Some.ensures)
      (omega (arith, c.if-index-position.false, c.if-index-position-2.false))
      c.in-Ok.field-0 c.pull_told.new.catalog c.pull_told.new.position c.pull_told.new.store c.pull_told.new.picker c.in-Ok.ensures.writes c.in-Ok.ensures.moved c.in-Ok.ensures.wide c.in-Ok.ensures.counted,
)

pub returns-in-Err-clause-pulls : goal.returns-in-Err-clause-pulls
returns-in-Err-clause-pulls g c = λ honest before shows.
    subst (λ (ts : List TableDef). PullsList g.P.Picker.picks c.args.first c.args.entries.now c.ended.result c.args.catalog.now c.args.position.now before c.args.picker.now ts c.pull_told.new.position (g.S.RowStore.contents c.pull_told.new.store) c.pull_told.new.picker)
    (sym c.in-Err.ensures.narrow)
    (subst (λ (x : Position). PullsList g.P.Picker.picks c.args.first c.args.entries.now c.ended.result c.args.catalog.now c.args.position.now before c.args.picker.now c.loop-next.catalog x (g.S.RowStore.contents c.pull_told.new.store) c.pull_told.new.picker)
    (sym c.in-Err.ensures.kept)
    (stopped_pulls g.P.Picker.picks c.args.first c.args.entries.now g.S.RowStore
    c.args.catalog.now c.args.position.now c.args.store.now c.args.picker.now c.loop-next.count c.loop-next.index (left_of c.loop-next.next) c.loop-next.catalog c.loop-next.position c.loop-next.store c.loop-next.picker c.loop-next.invariant.1
    c.in-Some.told c.in-Some.others (ap left_of c.in-Some.is) (omega (arith, c.if-index-position.false, c.if-index-position-2.false))
    c.in-Err.fault c.pull_told.new.store c.pull_told.new.picker c.ended.result c.ended.ensures c.in-Err.ensures.writes
    c.in-Err.ensures.refused honest before shows))

pub returns-in-Err-clause-writes : goal.returns-in-Err-clause-writes
returns-in-Err-clause-writes g c =
    subst (λ (ts : List TableDef). WritesInTurn g.S.RowStore (TakesAll c.ended.result) (TellsDevice c.ended.result)
    (ShowsSomeAt c.args.catalog.now c.args.position.now (g.S.RowStore.contents c.args.store.now))
    (IsAmong g.P.Picker.picks c.args.first c.args.entries.now c.args.catalog.now c.args.position.now (g.S.RowStore.contents c.args.store.now) c.args.picker.now)
    (IsNextOf g.P.Picker.picks c.args.first c.args.entries.now ts c.pull_told.new.position (g.S.RowStore.contents c.pull_told.new.store)) c.args.store.now c.pull_told.new.store)
    (sym c.in-Err.ensures.narrow)
    (subst (λ (x : Position). WritesInTurn g.S.RowStore (TakesAll c.ended.result) (TellsDevice c.ended.result)
    (ShowsSomeAt c.args.catalog.now c.args.position.now (g.S.RowStore.contents c.args.store.now))
    (IsAmong g.P.Picker.picks c.args.first c.args.entries.now c.args.catalog.now c.args.position.now (g.S.RowStore.contents c.args.store.now) c.args.picker.now)
    (IsNextOf g.P.Picker.picks c.args.first c.args.entries.now c.loop-next.catalog x (g.S.RowStore.contents c.pull_told.new.store)) c.args.store.now c.pull_told.new.store)
    (sym c.in-Err.ensures.kept)
    (stopped_turn g.P.Picker.picks c.args.first c.args.entries.now g.S.RowStore
    c.args.catalog.now c.args.position.now c.args.store.now c.args.picker.now c.loop-next.count c.loop-next.index (left_of c.loop-next.next) c.loop-next.catalog c.loop-next.position c.loop-next.store c.loop-next.picker c.loop-next.invariant.1
    c.in-Some.told c.in-Some.others (ap left_of c.in-Some.is) (omega (arith, c.if-index-position.false, c.if-index-position-2.false))
    c.in-Err.fault c.pull_told.new.store c.pull_told.new.picker c.ended.result c.ended.ensures c.in-Err.ensures.writes
    (λ e. c.in-Err.ensures.behind (ap (λ f. Err f) e)) (λ e. c.in-Err.ensures.gap (ap (λ f. Err f) e))))

pub returns-in_default-clause-pulls : goal.returns-in_default-clause-pulls
returns-in_default-clause-pulls g c =
    end_pulls g.P.Picker.picks c.args.first c.args.entries.now g.S.RowStore
    c.args.catalog.now c.args.position.now c.args.store.now c.args.picker.now c.loop-next.count c.loop-next.index (left_of c.loop-next.next) c.loop-next.catalog c.loop-next.position c.loop-next.store c.loop-next.picker c.loop-next.invariant.1
    (inl (ap left_of c.in_default.is))
