use Rattle.std.proofs.Common.{◌<◌, ◌+◌, drop, length, arith}
use Rattle.std.proofs.lemmas.List.{drop_all}
use Rattle.std.proofs.lemmas.Option.{slice_get_within}
use Rattle.cs_pending.specs.Settled.{Catalogs}
use Rattle.cs_exchange.specs.taking.Steps.{IsOn, IsPlaced}
use Rattle.cs_exchange.specs.declared.taking.site.Site.{Site}
use Rattle.cs_exchange.proofs.TakingLemmas.Decided.{AllLaws, decides_end, decides_more, if_stopped_as, stop_at_site, stop_later}
use Rattle.cs_exchange.proofs.TakingLemmas.Rest.{all_here, all_left, drop_here}
use Rattle.cs_exchange.proofs.taking.deciding.decide.Goals as goal

pub loop-site-preserved : goal.loop-site-preserved
loop-site-preserved g c =
    let sites = c.args.sites.now in
    let at = c.loop-site.site-index in
    let site = c.site-item.result in
    let less : at < length sites = omega (arith, c.loop-site-test.true) in
    let parts = drop_here sites at site less c.site-item.is in
    record {
      ready = c.own_after.ensures.ready;
      within = λ tables placed within.
          let here = all_here (λ (s : Site). IsPlaced tables s.at) sites at site less c.site-item.is placed in
          c.in_ok-settle_at.ensures.within tables (slice_get_within tables site.at.number site.at.table.now here) (c.loop-site.invariant.within tables placed within);
      decides = λ tables contents begun log own view are ready settles.
          let law : Catalogs tables = record { are = are; one = c.catalogs.ensures.place; key = c.one_key_stands.ensures; net_takes = c.net_takes.ensures } in
          let laws : AllLaws = record { tells = c.bytes_tell_keys.ensures; fit = c.set_columns_fit.ensures; made_as = c.made_as_replaced.ensures; kinds = c.kind_tells.ensures; diamond = c.diamond.ensures; normal_is_net = c.normal_is_net.ensures } in
          decides_more g.P.Picker.picks tables contents begun log own sites view c.args.picker.now laws law (drop at sites) site (drop (at + 1) sites) c.in-Ok.merged c.loop-site.picker c.own_after.new.picker
          c.loop-site.settling c.settle_at.new.settling parts c.in-Ok.ensures.left
          (λ mid placed theirs merged before settled. c.in_ok-settle_at.ensures.settled tables contents begun mid are placed theirs merged before settled)
          (c.loop-site.invariant.decides tables contents begun log own view are ready settles);
      stops = λ log own on conflict last stops. c.loop-site.invariant.stops log own on conflict last
          (stop_later g.P.Picker.picks log own site (drop (at + 1) sites) (drop at sites) c.loop-site.picker c.own_after.new.picker last c.in-Ok.merged conflict parts (all_left (IsOn log own) at sites on) c.in-Ok.ensures.left stops);
    }

pub returns-in-Err-clause-stopped : goal.returns-in-Err-clause-stopped
returns-in-Err-clause-stopped g c = λ log own on.
    let sites = c.args.sites.now in
    let at = c.loop-site.site-index in
    let site = c.site-item.result in
    let less : at < length sites = omega (arith, c.loop-site-test.true) in
    if_stopped_as c.in-Err.fault _ _
    (λ conflict here. c.loop-site.invariant.stops log own on conflict _
    (stop_at_site g.P.Picker.picks log own site (drop (at + 1) sites) (drop at sites) c.loop-site.picker c.own_after.new.picker (drop_here sites at site less c.site-item.is) (all_left (IsOn log own) at sites on) conflict here))
    c.in-Err.ensures.stopped

pub returns-clause-decided : goal.returns-clause-decided
returns-clause-decided g c = λ tables contents begun log own view are ready settles.
    let sites = c.args.sites.now in
    decides_end g.P.Picker.picks tables contents begun log own sites view c.args.picker.now (drop c.loop-site.site-index sites) c.loop-site.settling c.loop-site.picker
    (drop_all c.loop-site.site-index sites (omega (arith, c.loop-site-test.false)))
    (c.loop-site.invariant.decides tables contents begun log own view are ready settles)
