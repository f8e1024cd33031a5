use Rattle.std.proofs.Common.{◌∙◌, Err, length, refl, ap}
use Rattle.std.proofs.lemmas.Option.{slice_get_read}
use Rattle.cs_store.specs.declared.log.entry.TheConstants.{MAX_ENTRIES}
use Rattle.cs_world.specs.declared.event.Event.TheVariants.{Restart}
use Rattle.cs_world.proofs.Counted.{told_as}
use Rattle.cs_world.proofs.Moved.{none_there, restarts, restarts_not}
use Rattle.cs_world.proofs.moving.Core.restart.Goals as goal

pub returns-in_default : goal.returns-in_default
returns-in_default g c =
    rw (← c.self.view_is) (none_there g.S.RowStore MAX_ENTRIES c.self.inside.hub c.self.inside.replicas.items c.self.inside.letters.items (Restart c.args.which) c.args.which c.self.inside.letters.items refl c.in_default.ensures.item.3 (λ w s. refl))

pub returns-in-Ok : goal.returns-in-Ok
returns-in-Ok g c =
    rw (← c.self.view_is) (restarts g.S.RowStore MAX_ENTRIES c.self.inside.hub c.self.inside.replicas.items c.self.inside.letters.items c.args.which c.in-Some.replica.now (slice_get_read c.self.inside.replicas.items (length c.self.inside.replicas.items) c.args.which c.in-Some.replica.now refl c.in-Some.ensures.item.3.0 c.in-Some.ensures.value) c.reload_replica.new.replica c.self.inside.letters.items refl (told_as g.S.RowStore c.reload_replica.ensures.counts (λ none. absurd none)) c.reload_replica.ensures.left (rw c.in-Ok.is at c.reload_replica.ensures.turned))

pub returns-in-Err : goal.returns-in-Err
returns-in-Err g c =
    rw (← c.self.view_is) (restarts_not g.S.RowStore MAX_ENTRIES c.self.inside.hub c.self.inside.replicas.items c.self.inside.letters.items c.args.which c.in-Some.replica.now (slice_get_read c.self.inside.replicas.items (length c.self.inside.replicas.items) c.args.which c.in-Some.replica.now refl c.in-Some.ensures.item.3.0 c.in-Some.ensures.value) c.reload_replica.new.replica c.in-Err.fault c.self.inside.letters.items refl (told_as g.S.RowStore c.reload_replica.ensures.counts (λ is. c.in-Err.is ∙ ap (λ f. Err f) is)) c.reload_replica.ensures.left (rw c.in-Err.is at c.reload_replica.ensures.turned))
