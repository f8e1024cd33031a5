use Rattle.std.proofs.Common.{◌∙◌, length, refl}
use Rattle.std.proofs.lemmas.Option.{slice_get_read}
use Rattle.cs_store.specs.declared.log.entry.TheConstants.{MAX_ENTRIES}
use Rattle.cs_world.specs.declared.event.Event.TheVariants.{Resend}
use Rattle.cs_world.proofs.Moved.{no_room, none_there, resends, resends_not}
use Rattle.cs_world.proofs.moving.Core.resend.Goals as goal

pub returns-then-is_err : goal.returns-then-is_err
returns-then-is_err g c =
    rw (← c.self.view_is) (no_room g.S.RowStore MAX_ENTRIES c.self.inside.hub c.self.inside.replicas.items c.self.inside.letters.items (Resend c.args.which) c.reserve.new.self.items c.reserve.ensures.items)

pub returns-in_default : goal.returns-in_default
returns-in_default g c =
    rw (← c.self.view_is) (none_there g.S.RowStore MAX_ENTRIES c.self.inside.hub c.self.inside.replicas.items c.self.inside.letters.items (Resend c.args.which) c.args.which c.reserve.new.self.items c.reserve.ensures.items (rw c.deref.ensures.value at c.in_default.ensures.lookup.3) (λ w s. refl))

pub returns-in-Ok : goal.returns-in-Ok
returns-in-Ok g c =
    rw (← c.self.view_is) (resends g.S.RowStore MAX_ENTRIES c.self.inside.hub c.self.inside.replicas.items c.self.inside.letters.items c.args.which c.in-Some.replica.now c.new.result c.send.result c.reserve.new.self.items c.send.new.letters.items (rw c.deref.ensures.value at (slice_get_read c.deref.result.now (length c.deref.result.now) c.args.which c.in-Some.replica.now refl c.in-Some.ensures.lookup.3.0 c.in-Some.ensures.lookup.1)) (rw c.in-Ok.is at c.resend.ensures.resent).0 (c.new.ensures ∙ (rw c.in-Ok.is at c.resend.ensures.resent).1) c.reserve.ensures.items c.send.ensures.items c.send.ensures.sent)

pub returns-in-Err : goal.returns-in-Err
returns-in-Err g c =
    rw (← c.self.view_is) (resends_not g.S.RowStore MAX_ENTRIES c.self.inside.hub c.self.inside.replicas.items c.self.inside.letters.items c.args.which c.in-Some.replica.now c.in-Err.fault c.reserve.new.self.items (rw c.deref.ensures.value at (slice_get_read c.deref.result.now (length c.deref.result.now) c.args.which c.in-Some.replica.now refl c.in-Some.ensures.lookup.3.0 c.in-Some.ensures.lookup.1)) (rw c.in-Err.is at c.resend.ensures.resent) c.reserve.ensures.items)
