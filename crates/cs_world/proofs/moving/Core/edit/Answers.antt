use Rattle.std.proofs.Common.{◌∙◌, Err, length, refl, ap}
use Rattle.std.proofs.lemmas.Option.{slice_get_read}
use Rattle.cs_store.specs.declared.log.entry.TheConstants.{MAX_ENTRIES}
use Rattle.cs_world.specs.declared.event.Event.TheVariants.{OnEdit}
use Rattle.cs_world.proofs.Counted.{told_as}
use Rattle.cs_world.proofs.Moved.{edits, edits_not, none_there}
use Rattle.cs_world.proofs.moving.Core.edit.Goals as goal

pub returns-in_default : goal.returns-in_default
returns-in_default g c =
    rw (← c.self.view_is) (none_there g.S.RowStore MAX_ENTRIES c.self.inside.hub c.self.inside.replicas.items c.self.inside.letters.items (OnEdit c.args.which c.args.edit.now) c.args.which c.self.inside.letters.items refl c.in_default.ensures.item.3 (λ w s. refl))

pub returns-in-Ok : goal.returns-in-Ok
returns-in-Ok g c =
    rw (← c.self.view_is) (edits g.S.RowStore MAX_ENTRIES c.self.inside.hub c.self.inside.replicas.items c.self.inside.letters.items c.args.which c.in-Some.replica.now (slice_get_read c.self.inside.replicas.items (length c.self.inside.replicas.items) c.args.which c.in-Some.replica.now refl c.in-Some.ensures.item.3.0 c.in-Some.ensures.value) c.edit.new.self c.args.edit.now c.self.inside.letters.items refl c.edit.ensures.catalog (told_as g.S.RowStore c.edit.ensures.counts (λ none. absurd none)) c.edit.ensures.left (rw c.in-Ok.is at c.edit.ensures.turned))

pub returns-in-Err : goal.returns-in-Err
returns-in-Err g c =
    rw (← c.self.view_is) (edits_not g.S.RowStore MAX_ENTRIES c.self.inside.hub c.self.inside.replicas.items c.self.inside.letters.items c.args.which c.in-Some.replica.now (slice_get_read c.self.inside.replicas.items (length c.self.inside.replicas.items) c.args.which c.in-Some.replica.now refl c.in-Some.ensures.item.3.0 c.in-Some.ensures.value) c.edit.new.self c.args.edit.now c.in-Err.fault c.self.inside.letters.items refl c.edit.ensures.catalog (told_as g.S.RowStore c.edit.ensures.counts (λ is. c.in-Err.is ∙ ap (λ f. Err f) is)) c.edit.ensures.left (rw c.in-Err.is at c.edit.ensures.turned))
