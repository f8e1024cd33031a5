use Rattle.cs_store.specs.declared.log.entry.TheConstants.{MAX_ENTRIES}
use Rattle.cs_world.specs.Steps as step
use Rattle.cs_world.specs.World.{Orders}
use Rattle.cs_world.specs.declared.event.Event.TheVariants.{AskWiden}
use Rattle.cs_world.specs.declared.letter.Letter.TheVariants as letter
use Rattle.cs_world.proofs.Moved.{no_room, sends}
use Rattle.cs_world.proofs.moving.Core.ask_widen.Goals as goal

pub returns-then-is_err : goal.returns-then-is_err
returns-then-is_err g c =
    rw (← c.self.view_is) (no_room g.S.RowStore MAX_ENTRIES c.self.inside.hub c.self.inside.replicas.items c.self.inside.letters.items (AskWiden c.args.wider.now) c.reserve.new.self.items c.reserve.ensures.items)

pub returns-in-Err : goal.returns-in-Err
returns-in-Err g c =
    rw (← c.self.view_is) (no_room g.S.RowStore MAX_ENTRIES c.self.inside.hub c.self.inside.replicas.items c.self.inside.letters.items (AskWiden c.args.wider.now) c.reserve.new.self.items c.reserve.ensures.items)

pub returns-in-Ok : goal.returns-in-Ok
returns-in-Ok g c =
    let asked = rw c.in-Ok.is at c.request.ensures in
    rw (← c.self.view_is) (sends g.S.RowStore MAX_ENTRIES c.self.inside.hub c.self.inside.replicas.items c.self.inside.letters.items (AskWiden c.args.wider.now) (letter.Orders c.in-Ok.request) c.send.result c.reserve.new.self.items c.send.new.letters.items
    c.reserve.ensures.items c.send.ensures.items c.send.ensures.sent (λ world stands. (Orders (step.asked_of_wider c.args.wider.now), asked.0, step.orders (rw asked.0 at asked.1))))
