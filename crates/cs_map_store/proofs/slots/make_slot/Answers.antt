use Rattle.std.proofs.Common.{None, sym, ◌∙◌}
use Rattle.cs_map_store.proofs.Changing.{made_shown, kept_by}
use Rattle.cs_map_store.proofs.Filled.{one_more, same_slots, made_empty}
use Rattle.cs_map_store.proofs.slots.make_slot.Goals as goal

pub returns-then-contains_key-clause-empty : goal.returns-then-contains_key-clause-empty
returns-then-contains_key-clause-empty c = λ ks. one_more ks c.args.key.now c.args.slots.now

pub returns-in_err-own-clause-empty : goal.returns-in_err-own-clause-empty
returns-in_err-own-clause-empty c = λ ks. one_more ks c.args.key.now c.args.slots.now

pub returns-in_err-insert-clause-empty : goal.returns-in_err-insert-clause-empty
returns-in_err-insert-clause-empty c = λ ks was. one_more ks c.args.key.now c.insert.new.self (same_slots ks c.args.slots.now c.insert.new.self c.in_err-insert.ensures.err was)

pub returns-clause-shown : goal.returns-clause-shown
returns-clause-shown c = made_shown c.args.slots.now c.insert.new.self c.args.key.now c.in_ok-own.own (c.in_ok-own.ensures.items ∙ c.as_slice.ensures.value) (sym c.contains_key.ensures ∙ c.if-contains_key.false) c.in_ok-insert.ensures.updates

pub returns-clause-kept : goal.returns-clause-kept
returns-clause-kept c = kept_by c.args.slots.now c.insert.new.self (c.args.key.now.0, c.in_ok-own.own) None c.in_ok-insert.ensures.updates

pub returns-clause-empty : goal.returns-clause-empty
returns-clause-empty c = λ ks. made_empty ks c.args.slots.now c.insert.new.self c.args.key.now c.in_ok-own.own (c.in_ok-own.ensures.items ∙ c.as_slice.ensures.value) c.in_ok-insert.ensures.updates
