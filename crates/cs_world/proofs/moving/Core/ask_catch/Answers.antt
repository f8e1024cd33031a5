use Rattle.std.proofs.Common.{◌≡◌, ◌∙◌, ap, length, refl, arith}
use Rattle.std.proofs.lemmas.Option.{slice_get_read}
use Rattle.cs_store.specs.declared.log.entry.TheConstants.{MAX_ENTRIES}
use Rattle.cs_pending.specs.declared.position.position.Position.{Position}
use Rattle.cs_wire.specs.Requests.{Asked, AsksCatch}
use Rattle.cs_world.specs.Steps as step
use Rattle.cs_world.specs.declared.event.Event.TheVariants.{AskCatch}
use Rattle.cs_world.proofs.Moved.{asks, no_room, none_there}
use Rattle.cs_world.proofs.moving.Core.ask_catch.Goals as goal

pub returns-then-is_err : goal.returns-then-is_err
returns-then-is_err g c =
    rw (← c.self.view_is) (no_room g.S.RowStore MAX_ENTRIES c.self.inside.hub c.self.inside.replicas.items c.self.inside.letters.items (AskCatch c.args.which c.args.limit) c.reserve.new.self.items c.reserve.ensures.items)

pub returns-in_default : goal.returns-in_default
returns-in_default g c =
    rw (← c.self.view_is) (none_there g.S.RowStore MAX_ENTRIES c.self.inside.hub c.self.inside.replicas.items c.self.inside.letters.items (AskCatch c.args.which c.args.limit) c.args.which c.reserve.new.self.items c.reserve.ensures.items (rw c.deref.ensures.value at c.in_default.ensures.lookup.3) (λ w s. refl))

pub returns : goal.returns
returns g c =
    let what : Position → Asked = λ position. AsksCatch position.id position.version c.args.limit in
    let asked : c.new.result ≡ what c.in-Some.replica.now.position = c.new.ensures ∙ (ap (λ i. AsksCatch i c.version.result c.args.limit) c.id.ensures ∙ ap (λ v. AsksCatch c.in-Some.replica.now.position.id v c.args.limit) c.version.ensures) in
    rw (← c.self.view_is) (asks g.S.RowStore MAX_ENTRIES c.self.inside.hub c.self.inside.replicas.items c.self.inside.letters.items (AskCatch c.args.which c.args.limit) what c.args.which c.in-Some.replica.now c.new.result c.send.result c.reserve.new.self.items c.send.new.letters.items (rw c.deref.ensures.value at (slice_get_read c.deref.result.now (length c.deref.result.now) c.args.which c.in-Some.replica.now refl c.in-Some.ensures.lookup.3.0 c.in-Some.ensures.lookup.1)) asked c.reserve.ensures.items c.send.ensures.items c.send.ensures.sent (λ world before was. step.catches (omega (arith, c.ranges.limit.fits)) was))
