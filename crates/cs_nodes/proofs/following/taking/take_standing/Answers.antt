use Rattle.std.proofs.Common.{◌≡◌}
use Rattle.cs_nodes.specs.declared.following.fault.NodeFault.TheVariants.{BadEntry}
use Rattle.cs_nodes.proofs.FollowingLemmas.Stood.{bad_told, taken_stands}
use Rattle.cs_nodes.proofs.following.taking.take_standing.Goals as goal

pub returns-in-Ok-clause-stands : goal.returns-in-Ok-clause-stands
returns-in-Ok-clause-stands g c = λ known here stands.
    taken_stands g.S.RowStore known c.args.replica.now c.take_next.new.replica c.in-Ok.ensures.writes.was_honest
    g.P.Picker.picks c.pulled_leads.ensures
    (record { defined = c.defined_is_applied.ensures; appended = c.appended_is_log.ensures; next = c.catalog_next.ensures; stands = c.steps_stand.ensures.entry })
    c.catalogs_are_tables.ensures c.args.entry.now c.args.picker.now c.take_next.new.picker
    c.normal_changes.ensures here c.in-Ok.ensures.writes.ok c.in-Ok.ensures.wide c.in-Ok.ensures.moved c.in-Ok.ensures.counted stands

pub returns-in-Err-clause-bad : goal.returns-in-Err-clause-bad
returns-in-Err-clause-bad g c = λ known here short stands is h.
    let s = stands (c.in-Err.ensures.writes.was_honest h) in
    let told : c.in-Err.fault ≡ BadEntry = cc in
    bad_told g.P.Picker.picks c.args.replica.now.catalog c.take_next.new.replica.catalog known c.args.entry.now c.args.replica.now.position c.take_next.new.replica.position s.0 c.args.picker.now c.take_next.new.picker c.in-Err.fault
    here short s.2 (c.in-Err.ensures.refused h s.0 s.1) told c.in-Err.ensures.catalog c.in-Err.ensures.kept
