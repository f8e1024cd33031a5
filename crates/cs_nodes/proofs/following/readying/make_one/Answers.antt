use Rattle.std.proofs.Common.{List, ap, subst, sym, ◌∙◌}
use Rattle.cs_value.specs.declared.catalog.TableDef.{TableDef}
use Rattle.cs_exchange.specs.declared.pushing.fault.PushFault.TheVariants as push
use Rattle.cs_exchange.specs.pushing.Pushes.{grounded}
use Rattle.cs_pending.specs.position.Shows.{ShowsAt}
use Rattle.cs_pending.specs.declared.position.position.Position.{Position}
use Rattle.cs_nodes.proofs.FollowingLemmas.InTurn.{failed_alone}
use Rattle.cs_nodes.proofs.FollowingLemmas.Readied.{device_made, made_next, made_ready, made_rows, made_shows, never_made}
use Rattle.cs_nodes.proofs.FollowingLemmas.Stood.{are_tables, readied_stands}
use Rattle.cs_nodes.proofs.following.readying.make_one.Goals as goal

pub returns-in-Ok-clause-readied : goal.returns-in-Ok-clause-readied
returns-in-Ok-clause-readied g c = λ h are before shows.
    let made = c.in-Ok.ensures.writes.ok h before shows in
    let moved = c.in-Ok.ensures.moved in
    let seen = c.shown.ensures.shown h in
    made_ready c.one_body.ensures c.args.replica.now.catalog are c.args.replica.now.position c.make_push.new.self.position (g.S.RowStore.contents c.args.replica.now.store) (g.S.RowStore.contents c.make_push.new.self.store) before
    made.0 moved.0 made.1 moved.1 seen.0 (subst (λ (t : List TableDef). ShowsAt t (g.S.RowStore.contents c.make_push.new.self.store) c.make_push.new.self.position seen.0) c.make_push.ensures.catalog seen.1)

pub returns-in-Ok-clause-stands : goal.returns-in-Ok-clause-stands
returns-in-Ok-clause-stands g c = λ known stands h.
    let s = stands (c.in-Ok.ensures.writes.was_honest h) in
    let are = are_tables c.catalogs_are_tables.ensures c.args.replica.now.catalog known c.args.replica.now.position s.0 s.2 in
    let made = c.in-Ok.ensures.writes.ok h s.0 s.1 in
    let moved = c.in-Ok.ensures.moved in
    let seen = c.shown.ensures.shown h in
    let shown = subst (λ (t : List TableDef). ShowsAt t (g.S.RowStore.contents c.make_push.new.self.store) c.make_push.new.self.position seen.0) c.make_push.ensures.catalog seen.1 in
    readied_stands g.S.RowStore known c.args.replica.now c.make_push.new.self c.in-Ok.ensures.writes.was_honest
    c.steps_stand.ensures.kept c.make_push.ensures.catalog s.0 (grounded s.0) h
    (subst (λ (t : List TableDef). ShowsAt t (g.S.RowStore.contents c.make_push.new.self.store) c.make_push.new.self.position (grounded s.0)) (sym c.make_push.ensures.catalog)
    (made_shows c.one_body.ensures c.args.replica.now.catalog are c.args.replica.now.position c.make_push.new.self.position (g.S.RowStore.contents c.args.replica.now.store) (g.S.RowStore.contents c.make_push.new.self.store) s.0
    made.0 moved.0 made.1 moved.1 seen.0 shown))
    (ap (λ (x : Position). x.version) moved.1)
    (made_rows c.one_body.ensures c.args.replica.now.catalog are c.args.replica.now.position c.make_push.new.self.position (g.S.RowStore.contents c.args.replica.now.store) (g.S.RowStore.contents c.make_push.new.self.store) s.0
    made.0 moved.0 made.1 moved.1 seen.0 shown)
    s.2

pub returns-in-Err-clause-writes : goal.returns-in-Err-clause-writes
returns-in-Err-clause-writes g c =
    failed_alone g.S.RowStore push.Device c.in-Err.fault _ _ _ c.args.replica.now.store c.make_push.new.self.store _ _
    (λ made. never_made c.in-Err.fault (sym c.not_made.ensures ∙ made)) (λ told. device_made c.in-Err.fault (sym c.not_made.ensures ∙ told))
    (made_next c.args.replica.now.catalog c.args.replica.now.position c.make_push.new.self.position (g.S.RowStore.contents c.args.replica.now.store) (g.S.RowStore.contents c.make_push.new.self.store) c.in-Err.ensures.kept)
    c.in-Err.ensures.writes
