use Rattle.cs_map_store.specs.Slots.{meta_of, shown}
use Rattle.cs_map_store.proofs.Checks.{own_written}
use Rattle.cs_map_store.proofs.Holding.{meta_after}
use Rattle.cs_map_store.proofs.map_store.write_rest.Goals as goal

pub returns-clause-meta : goal.returns-clause-meta
returns-clause-meta c = meta_after c.args.slots.now.entries c.take_room.new.slots.entries c.write_steps.new.slots.entries c.in_ok-steps.steps.items c.args.batch.now.meta.items
    c.take_room.ensures.shown c.in_ok-steps.ensures c.write_steps.ensures.shown

pub returns-clause-names : goal.returns-clause-names
returns-clause-names c = λ own. own_written (meta_of (shown c.args.slots.now.entries)) (meta_of (shown c.write_steps.new.slots.entries)) c.args.batch.now.meta.items
    (meta_after c.args.slots.now.entries c.take_room.new.slots.entries c.write_steps.new.slots.entries c.in_ok-steps.steps.items c.args.batch.now.meta.items
    c.take_room.ensures.shown c.in_ok-steps.ensures c.write_steps.ensures.shown) own
