use Rattle.std.proofs.Common.{None, sym, ◌∙◌}
use Rattle.cs_map_store.proofs.Changing.{swept_shown}
use Rattle.cs_map_store.proofs.Filled.{filled_at, filled_there, empty_there, not_empty_there}
use Rattle.cs_map_store.proofs.slots.sweep_slot.Goals as goal

pub returns-then-is_empty : goal.returns-then-is_empty
returns-then-is_empty c = record {
  shown = swept_shown c.args.slots.now c.remove.new.self c.args.key.now (empty_there _ (sym c.is_empty.ensures ∙ c.if-is_empty.true)) c.remove.ensures.updates;
  empty = λ ks. filled_at ks c.args.slots.now c.remove.new.self c.args.key.now None (λ e. cc) c.remove.ensures.updates;
}

pub returns-else-is_empty-clause-empty : goal.returns-else-is_empty-clause-empty
returns-else-is_empty-clause-empty c = λ ks. filled_there ks c.args.slots.now c.args.key.now (not_empty_there _ (sym c.is_empty.ensures ∙ c.if-is_empty.false))
