use Rattle.std.proofs.Common.{◌∙◌, Some, ap, refl, sym}
use Rattle.cs_change.specs.Action.{action}
use Rattle.cs_change.specs.Net.{net}
use Rattle.cs_conflict.specs.declared.conflict.Conflict.{Conflict}
use Rattle.cs_exchange.specs.taking.Steps.{site_task}
use Rattle.cs_exchange.proofs.TakingLemmas.Local.{able, action_is, gone_deletes, is_clash, local_is, no_local}
use Rattle.cs_exchange.proofs.taking.asking.ask.Goals as goal

pub unreachable-requires : goal.unreachable-requires
unreachable-requires g c =
    no_local c.kind_tells.ensures c.args.site.now.at.table.now.key_marks c.args.site.now.before.base c.args.site.now.before.mine c.args.site.now.theirs (action c.args.site.now.at.change) c.args.kind c.in_ok-changes.changes c.in_ok-changes.ensures (sym c.get.ensures ∙ c.in_default.is) c.args.site.now.made c.requires.stuck

pub new-clash-requires-clause-not_found : goal.new-clash-requires-clause-not_found
new-clash-requires-clause-not_found g c = λ gone.
    let own = c.args.site.now.before.mine in
    let local = local_is c.args.site.now.at.table.now.key_marks c.args.site.now.before.base own c.in_ok-changes.changes c.in-Some.local c.in_ok-changes.ensures (sym c.get.ensures ∙ c.in-Some.is) in
    gone_deletes c.kind_tells.ensures c.replaces_unless_not_found.ensures c.args.site.now.at.table.now.key_marks c.args.site.now.before.base own c.args.site.now.theirs (action c.args.site.now.at.change) c.in-Some.local
    c.args.site.now.made (c.requires.stuck ∙ ap (λ k. Some k) gone) (action_is (net c.args.site.now.at.table.now.key_marks c.args.site.now.before.base own) c.in-Some.local local)

pub returns-in-Stop-clause-stopped : goal.returns-in-Stop-clause-stopped
returns-in-Stop-clause-stopped g c =
    let site = c.args.site.now in
    let local = local_is site.at.table.now.key_marks site.before.base site.before.mine c.in_ok-changes.changes c.in-Some.local c.in_ok-changes.ensures (sym c.get.ensures ∙ c.in-Some.is) in (
      c.new-clash.result,
      is_clash (site_task site) site.before.base site.before.mine c.new-clash.result _ c.in-Some.local c.new-clash.ensures.conflict c.new-clash.ensures.local
          (record { of_kind = c.requires.stuck; of_table = refl; of_change = c.again.ensures; of_row = c.lent.ensures }) local,
      c.in-Stop.ensures.picked,
      c.in_ok-shown.ensures,
    )

pub returns : goal.returns
returns g c =
    let site = c.args.site.now in
    let local = local_is site.at.table.now.key_marks site.before.base site.before.mine c.in_ok-changes.changes c.in-Some.local c.in_ok-changes.ensures (sym c.get.ensures ∙ c.in-Some.is) in
    record {
      ready = c.pick-wish.ensures.ready;
      asked = (
        c.in_default-wish.not-Stop,
        (
          c.new-clash.result,
          is_clash (site_task site) site.before.base site.before.mine c.new-clash.result _ c.in-Some.local c.new-clash.ensures.conflict c.new-clash.ensures.local
              (record { of_kind = c.requires.stuck; of_table = refl; of_change = c.again.ensures; of_row = c.lent.ensures }) local,
          c.pick-wish.ensures.picked,
          c.pick-wish.ensures.lawful,
        ),
      );
      able = able c.pick-wish.result c.args.kind c.new-clash.result.conflict.kind c.new-clash.result.covers (ap (λ (x : Conflict). x.kind) c.new-clash.ensures.conflict) c.pick-wish.ensures.lawful;
      stopped = tt;
      good = λ e. cc;
      steady = λ e. cc;
    }
