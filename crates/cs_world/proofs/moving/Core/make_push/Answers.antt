use Rattle.std.proofs.Common.{◌∙◌, Err, length, refl, ap}
use Rattle.std.proofs.lemmas.Option.{slice_get_read}
use Rattle.cs_store.specs.declared.log.entry.TheConstants.{MAX_ENTRIES}
use Rattle.cs_world.specs.declared.event.Event.TheVariants.{MakePush}
use Rattle.cs_world.proofs.Counted.{told_as}
use Rattle.cs_world.proofs.Moved.{no_room, none_there, pushes, pushes_not}
use Rattle.cs_world.proofs.moving.Core.make_push.Goals as goal

pub returns-then-is_err : goal.returns-then-is_err
returns-then-is_err g c =
    rw (← c.self.view_is) (no_room g.S.RowStore MAX_ENTRIES c.self.inside.hub c.self.inside.replicas.items c.self.inside.letters.items (MakePush c.args.which) c.reserve.new.self.items c.reserve.ensures.items)

pub returns-in_default : goal.returns-in_default
returns-in_default g c =
    rw (← c.self.view_is) (none_there g.S.RowStore MAX_ENTRIES c.self.inside.hub c.self.inside.replicas.items c.self.inside.letters.items (MakePush c.args.which) c.args.which c.reserve.new.self.items c.reserve.ensures.items c.in_default.ensures.item.3 (λ w s. refl))

pub returns-in-Ok : goal.returns-in-Ok
returns-in-Ok g c =
    rw (← c.self.view_is) (pushes g.S.RowStore MAX_ENTRIES c.self.inside.hub c.self.inside.replicas.items c.self.inside.letters.items c.args.which c.in-Some.replica.now (slice_get_read c.self.inside.replicas.items (length c.self.inside.replicas.items) c.args.which c.in-Some.replica.now refl c.in-Some.ensures.item.3.0 c.in-Some.ensures.value) c.make_push.new.self c.in-Ok.request c.new.result c.send.result c.reserve.new.self.items c.send.new.letters.items c.new.ensures c.reserve.ensures.items c.send.ensures.items c.send.ensures.sent c.make_push.ensures.catalog (told_as g.S.RowStore c.make_push.ensures.counts (λ none. absurd none)) c.make_push.ensures.left (rw c.in-Ok.is at c.make_push.ensures.turned))

pub returns-in-Err : goal.returns-in-Err
returns-in-Err g c =
    rw (← c.self.view_is) (pushes_not g.S.RowStore MAX_ENTRIES c.self.inside.hub c.self.inside.replicas.items c.self.inside.letters.items c.args.which c.in-Some.replica.now (slice_get_read c.self.inside.replicas.items (length c.self.inside.replicas.items) c.args.which c.in-Some.replica.now refl c.in-Some.ensures.item.3.0 c.in-Some.ensures.value) c.make_push.new.self c.in-Err.fault c.reserve.new.self.items c.reserve.ensures.items c.make_push.ensures.catalog (told_as g.S.RowStore c.make_push.ensures.counts (λ is. c.in-Err.is ∙ ap (λ f. Err f) is)) c.make_push.ensures.left (rw c.in-Err.is at c.make_push.ensures.turned))
