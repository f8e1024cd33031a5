use Rattle.std.proofs.Common.{◌∙◌, Some, None, Ok, refl, sym, ap, arith, Err, length}
use Rattle.std.proofs.lemmas.Option.{slice_get_read}
use Rattle.cs_store.specs.declared.log.entry.TheConstants.{MAX_ENTRIES}
use Rattle.cs_world.specs.declared.event.Event.TheVariants.{Deliver}
use Rattle.cs_world.proofs.Asking.{asks_hub, asks_hub_alone, asks_no_one, asks_nobody, asks_none, asks_replica}
use Rattle.cs_world.proofs.Counted.{told_as}
use Rattle.cs_world.proofs.Left.{hub_leaves}
use Rattle.cs_world.proofs.Moved.{hears, no_letter, no_room, nobody_hears, none_told, serves, serves_not, unread}
use Rattle.cs_world.proofs.moving.Core.deliver.Goals as goal

pub returns-then-is_err-clause-moves : goal.returns-then-is_err-clause-moves
returns-then-is_err-clause-moves g c =
    rw (← c.self.view_is) (no_room g.S.RowStore MAX_ENTRIES c.self.inside.hub c.self.inside.replicas.items c.self.inside.letters.items (Deliver c.args.which c.args.wishes.now) c.reserve.new.self.items c.reserve.ensures.items)

pub returns-in_default-clause-moves : goal.returns-in_default-clause-moves
returns-in_default-clause-moves g c =
    rw (← c.self.view_is) (no_room g.S.RowStore MAX_ENTRIES c.self.inside.hub c.self.inside.replicas.items c.self.inside.letters.items (Deliver c.args.which c.args.wishes.now) c.reserve.new.self.items c.reserve.ensures.items)

pub returns-in_default-serve-clause-moves : goal.returns-in_default-serve-clause-moves
returns-in_default-serve-clause-moves g c =
    rw (← c.self.view_is) (serves_not g.S.RowStore MAX_ENTRIES c.self.inside.hub c.self.inside.replicas.items c.self.inside.letters.items (omega (arith, c.most_entries.ensures)) c.answers_fit.ensures c.args.which (Some c.in-Some-Asks.replica) c.in-Some-Asks.request (rw (c.deref.ensures.value, c.reserve.ensures.items) at (slice_get_read c.deref.result.now (length c.deref.result.now) c.args.which c.in-Some-Asks.field-0.now refl c.in-Some-Asks.ensures.lookup.3.0 c.in-Some-Asks.ensures.lookup.1) ∙ ap (λ x. Some x) c.in-Some-Asks.field-0-is) c.args.wishes.now c.in-Ok.bytes.items c.serve.new.self c.reserve.new.self.items (rw c.in-Ok.is at c.encode.ensures) (rw c.in_default-serve.is at c.serve.ensures.refused) (rw c.as_slice.ensures.value at (hub_leaves g.S.RowStore MAX_ENTRIES c.self.inside.hub c.serve.new.self c.as_slice.result.now c.serve.result c.one_log.ensures c.tables-tables.ensures.tables c.serve.ensures.store)) c.serve.ensures.store.later c.reserve.ensures.items)

pub returns-in_default-decode-clause-moves : goal.returns-in_default-decode-clause-moves
returns-in_default-decode-clause-moves g c =
    rw (← c.self.view_is) (unread g.S.RowStore MAX_ENTRIES c.self.inside.hub c.self.inside.replicas.items c.self.inside.letters.items c.args.which c.in-Some-Tells.replica c.args.wishes.now c.in-Some-Tells.answer c.reserve.new.self.items c.reserve.ensures.items (rw (c.deref.ensures.value, c.reserve.ensures.items) at (slice_get_read c.deref.result.now (length c.deref.result.now) c.args.which c.in-Some-Tells.field-0.now refl c.in-Some-Tells.ensures.lookup.3.0 c.in-Some-Tells.ensures.lookup.1) ∙ ap (λ x. Some x) c.in-Some-Tells.field-0-is) (λ answer fits is. let both = c.decode.ensures.only answer fits (c.as_slice-in-Some-Tells.ensures.value ∙ is) in let other = c.in_default-decode.is in absurd (cc)))

pub returns-in_default-get_mut-clause-moves : goal.returns-in_default-get_mut-clause-moves
returns-in_default-get_mut-clause-moves g c =
    rw (← c.self.view_is) (none_told g.S.RowStore MAX_ENTRIES c.self.inside.hub c.self.inside.replicas.items c.self.inside.letters.items c.args.which c.in-Some-Tells.replica c.args.wishes.now c.in-Some-Tells.answer c.reserve.new.self.items c.reserve.ensures.items (rw (c.deref.ensures.value, c.reserve.ensures.items) at (slice_get_read c.deref.result.now (length c.deref.result.now) c.args.which c.in-Some-Tells.field-0.now refl c.in-Some-Tells.ensures.lookup.3.0 c.in-Some-Tells.ensures.lookup.1) ∙ ap (λ x. Some x) c.in-Some-Tells.field-0-is) c.in_default-get_mut.ensures.item.3)

pub returns-in-None-clause-moves : goal.returns-in-None-clause-moves
returns-in-None-clause-moves g c =
    rw (← c.self.view_is) (no_letter g.S.RowStore MAX_ENTRIES c.self.inside.hub c.self.inside.replicas.items c.self.inside.letters.items c.args.which c.args.wishes.now c.reserve.new.self.items c.reserve.ensures.items (rw (c.deref.ensures.value, c.reserve.ensures.items) at c.in-None.ensures.lookup.3))

pub returns-in-Ok-serve-clause-moves : goal.returns-in-Ok-serve-clause-moves
returns-in-Ok-serve-clause-moves g c =
    rw (← c.self.view_is) (serves g.S.RowStore MAX_ENTRIES c.self.inside.hub c.self.inside.replicas.items c.self.inside.letters.items (omega (arith, c.most_entries.ensures)) c.answers_fit.ensures c.args.which (Some c.in-Some-Asks.replica) c.in-Some-Asks.request (rw (c.deref.ensures.value, c.reserve.ensures.items) at (slice_get_read c.deref.result.now (length c.deref.result.now) c.args.which c.in-Some-Asks.field-0.now refl c.in-Some-Asks.ensures.lookup.3.0 c.in-Some-Asks.ensures.lookup.1) ∙ ap (λ x. Some x) c.in-Some-Asks.field-0-is) c.args.wishes.now c.in-Ok.bytes.items c.in-Ok-serve.answer c.serve.new.self c.send.result c.reserve.new.self.items c.send.new.letters.items (rw c.in-Ok.is at c.encode.ensures) (rw (c.in-Ok-serve.is, c.as_slice.ensures.value) at c.serve.ensures.served) (rw c.as_slice.ensures.value at (hub_leaves g.S.RowStore MAX_ENTRIES c.self.inside.hub c.serve.new.self c.as_slice.result.now c.serve.result c.one_log.ensures c.tables-tables.ensures.tables c.serve.ensures.store)) c.serve.ensures.store.later c.reserve.ensures.items c.send.ensures.items c.send.ensures.sent)

pub returns-in-Ok-answer-clause-moves : goal.returns-in-Ok-answer-clause-moves
returns-in-Ok-answer-clause-moves g c =
    rw (← c.self.view_is) (hears g.S.RowStore MAX_ENTRIES c.self.inside.hub c.self.inside.replicas.items c.self.inside.letters.items c.in-Some-Tells.replica c.in-Some.replica.now (slice_get_read c.self.inside.replicas.items (length c.self.inside.replicas.items) c.in-Some-Tells.replica c.in-Some.replica.now refl c.in-Some.ensures.item.3.0 c.in-Some.ensures.value) c.answer.new.self c.args.which c.args.wishes.now c.in-Some-Tells.answer c.in-Ok-decode.answer (Ok c.in-Ok-answer.told) c.reserve.new.self.items c.reserve.ensures.items (rw (c.deref.ensures.value, c.reserve.ensures.items) at (slice_get_read c.deref.result.now (length c.deref.result.now) c.args.which c.in-Some-Tells.field-0.now refl c.in-Some-Tells.ensures.lookup.3.0 c.in-Some-Tells.ensures.lookup.1) ∙ ap (λ x. Some x) c.in-Some-Tells.field-0-is) (rw c.in-Ok-decode.is at c.decode.ensures.found).0 (sym c.as_slice-in-Some-Tells.ensures.value ∙ (rw c.in-Ok-decode.is at c.decode.ensures.found).1) c.one_told_answer.ensures (told_as g.S.RowStore c.answer.ensures.counts (λ none. absurd none)) c.answer.ensures.left (rw (c.in-Ok-answer.is, c.new-picker.ensures) at c.answer.ensures.turned))

pub returns-in-Err-clause-moves : goal.returns-in-Err-clause-moves
returns-in-Err-clause-moves g c =
    rw (← c.self.view_is) (hears g.S.RowStore MAX_ENTRIES c.self.inside.hub c.self.inside.replicas.items c.self.inside.letters.items c.in-Some-Tells.replica c.in-Some.replica.now (slice_get_read c.self.inside.replicas.items (length c.self.inside.replicas.items) c.in-Some-Tells.replica c.in-Some.replica.now refl c.in-Some.ensures.item.3.0 c.in-Some.ensures.value) c.answer.new.self c.args.which c.args.wishes.now c.in-Some-Tells.answer c.in-Ok-decode.answer (Err c.in-Err.fault) c.reserve.new.self.items c.reserve.ensures.items (rw (c.deref.ensures.value, c.reserve.ensures.items) at (slice_get_read c.deref.result.now (length c.deref.result.now) c.args.which c.in-Some-Tells.field-0.now refl c.in-Some-Tells.ensures.lookup.3.0 c.in-Some-Tells.ensures.lookup.1) ∙ ap (λ x. Some x) c.in-Some-Tells.field-0-is) (rw c.in-Ok-decode.is at c.decode.ensures.found).0 (sym c.as_slice-in-Some-Tells.ensures.value ∙ (rw c.in-Ok-decode.is at c.decode.ensures.found).1) c.one_told_answer.ensures (told_as g.S.RowStore c.answer.ensures.counts (λ is. rw c.in-Err.is is)) c.answer.ensures.left (rw (c.in-Err.is, c.new-picker.ensures) at c.answer.ensures.turned))

pub returns-then-is_err-clause-asks : goal.returns-then-is_err-clause-asks
returns-then-is_err-clause-asks g c = rw (← c.self.view_is) (asks_none g.S.RowStore MAX_ENTRIES c.args.which c.args.wishes.now c.self.inside.hub _ c.self.inside.replicas.items c.self.inside.replicas.items c.self.inside.letters.items _)

pub returns-in_default-clause-asks : goal.returns-in_default-clause-asks
returns-in_default-clause-asks g c = rw (← c.self.view_is) (asks_none g.S.RowStore MAX_ENTRIES c.args.which c.args.wishes.now c.self.inside.hub _ c.self.inside.replicas.items c.self.inside.replicas.items c.self.inside.letters.items _)

pub returns-in_default-serve-clause-asks : goal.returns-in_default-serve-clause-asks
returns-in_default-serve-clause-asks g c = rw (← c.self.view_is) (asks_none g.S.RowStore MAX_ENTRIES c.args.which c.args.wishes.now c.self.inside.hub _ c.self.inside.replicas.items c.self.inside.replicas.items c.self.inside.letters.items _)

pub returns-in-None-clause-asks : goal.returns-in-None-clause-asks
returns-in-None-clause-asks g c =
    rw (← c.self.view_is) (asks_nobody g.S.RowStore MAX_ENTRIES c.args.which c.args.wishes.now c.self.inside.hub _ c.self.inside.replicas.items c.self.inside.replicas.items c.self.inside.letters.items _ _ (rw (c.deref.ensures.value, c.reserve.ensures.items) at c.in-None.ensures.lookup.3))

pub returns-in_default-decode-clause-asks : goal.returns-in_default-decode-clause-asks
returns-in_default-decode-clause-asks g c =
    rw (← c.self.view_is) (asks_replica g.S.RowStore MAX_ENTRIES c.args.which c.args.wishes.now c.self.inside.hub _ c.self.inside.replicas.items c.self.inside.replicas.items c.self.inside.letters.items _ _ c.in-Some-Tells.replica c.in-Some-Tells.answer (rw (c.deref.ensures.value, c.reserve.ensures.items) at (slice_get_read c.deref.result.now (length c.deref.result.now) c.args.which c.in-Some-Tells.field-0.now refl c.in-Some-Tells.ensures.lookup.3.0 c.in-Some-Tells.ensures.lookup.1) ∙ ap (λ x. Some x) c.in-Some-Tells.field-0-is))

pub returns-in_default-get_mut-clause-asks : goal.returns-in_default-get_mut-clause-asks
returns-in_default-get_mut-clause-asks g c =
    rw (← c.self.view_is) (asks_replica g.S.RowStore MAX_ENTRIES c.args.which c.args.wishes.now c.self.inside.hub _ c.self.inside.replicas.items c.self.inside.replicas.items c.self.inside.letters.items _ _ c.in-Some-Tells.replica c.in-Some-Tells.answer (rw (c.deref.ensures.value, c.reserve.ensures.items) at (slice_get_read c.deref.result.now (length c.deref.result.now) c.args.which c.in-Some-Tells.field-0.now refl c.in-Some-Tells.ensures.lookup.3.0 c.in-Some-Tells.ensures.lookup.1) ∙ ap (λ x. Some x) c.in-Some-Tells.field-0-is))

pub returns-in-Ok-answer-clause-asks : goal.returns-in-Ok-answer-clause-asks
returns-in-Ok-answer-clause-asks g c =
    rw (← c.self.view_is) (asks_replica g.S.RowStore MAX_ENTRIES c.args.which c.args.wishes.now c.self.inside.hub _ c.self.inside.replicas.items c.self.inside.replicas.items c.self.inside.letters.items _ _ c.in-Some-Tells.replica c.in-Some-Tells.answer (rw (c.deref.ensures.value, c.reserve.ensures.items) at (slice_get_read c.deref.result.now (length c.deref.result.now) c.args.which c.in-Some-Tells.field-0.now refl c.in-Some-Tells.ensures.lookup.3.0 c.in-Some-Tells.ensures.lookup.1) ∙ ap (λ x. Some x) c.in-Some-Tells.field-0-is))

pub returns-in-Err-clause-asks : goal.returns-in-Err-clause-asks
returns-in-Err-clause-asks g c =
    rw (← c.self.view_is) (asks_replica g.S.RowStore MAX_ENTRIES c.args.which c.args.wishes.now c.self.inside.hub _ c.self.inside.replicas.items c.self.inside.replicas.items c.self.inside.letters.items _ _ c.in-Some-Tells.replica c.in-Some-Tells.answer (rw (c.deref.ensures.value, c.reserve.ensures.items) at (slice_get_read c.deref.result.now (length c.deref.result.now) c.args.which c.in-Some-Tells.field-0.now refl c.in-Some-Tells.ensures.lookup.3.0 c.in-Some-Tells.ensures.lookup.1) ∙ ap (λ x. Some x) c.in-Some-Tells.field-0-is))

pub returns-in-Ok-serve-clause-asks : goal.returns-in-Ok-serve-clause-asks
returns-in-Ok-serve-clause-asks g c =
    rw (← c.self.view_is) (asks_hub g.S.RowStore MAX_ENTRIES c.args.which c.args.wishes.now c.self.inside.hub _ c.self.inside.replicas.items c.self.inside.replicas.items c.self.inside.letters.items _ _ c.in-Some-Asks.replica c.in-Some-Asks.request c.in-Ok.bytes.items c.in-Ok-serve.answer c.reserve.new.self.items (rw (c.deref.ensures.value, c.reserve.ensures.items) at (slice_get_read c.deref.result.now (length c.deref.result.now) c.args.which c.in-Some-Asks.field-0.now refl c.in-Some-Asks.ensures.lookup.3.0 c.in-Some-Asks.ensures.lookup.1) ∙ ap (λ x. Some x) c.in-Some-Asks.field-0-is) (rw c.in-Ok.is at c.encode.ensures) c.reserve.ensures.items c.send.ensures.items (rw (c.in-Ok-serve.is, c.as_slice.ensures.value) at c.serve.ensures.served))

pub returns-in_default-serve-2-clause-moves : goal.returns-in_default-serve-2-clause-moves
returns-in_default-serve-2-clause-moves g c =
    rw (← c.self.view_is) (serves_not g.S.RowStore MAX_ENTRIES c.self.inside.hub c.self.inside.replicas.items c.self.inside.letters.items (omega (arith, c.most_entries.ensures)) c.answers_fit.ensures c.args.which None c.in-Some-Orders.request (rw (c.deref.ensures.value, c.reserve.ensures.items) at (slice_get_read c.deref.result.now (length c.deref.result.now) c.args.which c.in-Some-Orders.field-0.now refl c.in-Some-Orders.ensures.lookup.3.0 c.in-Some-Orders.ensures.lookup.1) ∙ ap (λ x. Some x) c.in-Some-Orders.field-0-is) c.args.wishes.now c.in-Ok-encode.bytes.items c.serve-in-Some-Orders.new.self c.reserve.new.self.items (rw c.in-Ok-encode.is at c.encode-in-Some-Orders.ensures) (rw c.in_default-serve-2.is at c.serve-in-Some-Orders.ensures.refused) (rw c.as_slice-in-Some-Orders.ensures.value at (hub_leaves g.S.RowStore MAX_ENTRIES c.self.inside.hub c.serve-in-Some-Orders.new.self c.as_slice-in-Some-Orders.result.now c.serve-in-Some-Orders.result c.one_log.ensures c.tables-tables.ensures.tables c.serve-in-Some-Orders.ensures.store)) c.serve-in-Some-Orders.ensures.store.later c.reserve.ensures.items)

pub returns-in-Ok-serve-2-clause-moves : goal.returns-in-Ok-serve-2-clause-moves
returns-in-Ok-serve-2-clause-moves g c =
    rw (← c.self.view_is) (serves g.S.RowStore MAX_ENTRIES c.self.inside.hub c.self.inside.replicas.items c.self.inside.letters.items (omega (arith, c.most_entries.ensures)) c.answers_fit.ensures c.args.which None c.in-Some-Orders.request (rw (c.deref.ensures.value, c.reserve.ensures.items) at (slice_get_read c.deref.result.now (length c.deref.result.now) c.args.which c.in-Some-Orders.field-0.now refl c.in-Some-Orders.ensures.lookup.3.0 c.in-Some-Orders.ensures.lookup.1) ∙ ap (λ x. Some x) c.in-Some-Orders.field-0-is) c.args.wishes.now c.in-Ok-encode.bytes.items c.in-Ok-serve-2.answer c.serve-in-Some-Orders.new.self c.send-in-Some-Orders.result c.reserve.new.self.items c.send-in-Some-Orders.new.letters.items (rw c.in-Ok-encode.is at c.encode-in-Some-Orders.ensures) (rw (c.in-Ok-serve-2.is, c.as_slice-in-Some-Orders.ensures.value) at c.serve-in-Some-Orders.ensures.served) (rw c.as_slice-in-Some-Orders.ensures.value at (hub_leaves g.S.RowStore MAX_ENTRIES c.self.inside.hub c.serve-in-Some-Orders.new.self c.as_slice-in-Some-Orders.result.now c.serve-in-Some-Orders.result c.one_log.ensures c.tables-tables.ensures.tables c.serve-in-Some-Orders.ensures.store)) c.serve-in-Some-Orders.ensures.store.later c.reserve.ensures.items c.send-in-Some-Orders.ensures.items c.send-in-Some-Orders.ensures.sent)

pub returns-in-Ok-serve-2-clause-asks : goal.returns-in-Ok-serve-2-clause-asks
returns-in-Ok-serve-2-clause-asks g c =
    rw (← c.self.view_is) (asks_hub_alone g.S.RowStore MAX_ENTRIES c.args.which c.args.wishes.now c.self.inside.hub _ c.self.inside.replicas.items c.self.inside.replicas.items c.self.inside.letters.items _ _ c.in-Some-Orders.request c.in-Ok-encode.bytes.items c.in-Ok-serve-2.answer c.reserve.new.self.items (rw (c.deref.ensures.value, c.reserve.ensures.items) at (slice_get_read c.deref.result.now (length c.deref.result.now) c.args.which c.in-Some-Orders.field-0.now refl c.in-Some-Orders.ensures.lookup.3.0 c.in-Some-Orders.ensures.lookup.1) ∙ ap (λ x. Some x) c.in-Some-Orders.field-0-is) (rw c.in-Ok-encode.is at c.encode-in-Some-Orders.ensures) c.reserve.ensures.items c.send-in-Some-Orders.ensures.items (rw (c.in-Ok-serve-2.is, c.as_slice-in-Some-Orders.ensures.value) at c.serve-in-Some-Orders.ensures.served))

pub returns-in_default-encode-clause-moves : goal.returns-in_default-encode-clause-moves
returns-in_default-encode-clause-moves g c =
    rw (← c.self.view_is) (no_room g.S.RowStore MAX_ENTRIES c.self.inside.hub c.self.inside.replicas.items c.self.inside.letters.items (Deliver c.args.which c.args.wishes.now) c.reserve.new.self.items c.reserve.ensures.items)

pub returns-in-Some-Replies-clause-moves : goal.returns-in-Some-Replies-clause-moves
returns-in-Some-Replies-clause-moves g c =
    rw (← c.self.view_is) (nobody_hears g.S.RowStore MAX_ENTRIES c.self.inside.hub c.self.inside.replicas.items c.self.inside.letters.items c.args.which c.args.wishes.now c.in-Some-Replies.field-0-0 c.reserve.new.self.items c.reserve.ensures.items (rw (c.deref.ensures.value, c.reserve.ensures.items) at (slice_get_read c.deref.result.now (length c.deref.result.now) c.args.which c.in-Some-Replies.field-0.now refl c.in-Some-Replies.ensures.lookup.3.0 c.in-Some-Replies.ensures.lookup.1) ∙ ap (λ x. Some x) c.in-Some-Replies.field-0-is))

pub returns-in-Some-Replies-clause-asks : goal.returns-in-Some-Replies-clause-asks
returns-in-Some-Replies-clause-asks g c =
    rw (← c.self.view_is) (asks_no_one g.S.RowStore MAX_ENTRIES c.args.which c.args.wishes.now c.self.inside.hub _ c.self.inside.replicas.items c.self.inside.replicas.items c.self.inside.letters.items _ _ c.in-Some-Replies.field-0-0 (rw (c.deref.ensures.value, c.reserve.ensures.items) at (slice_get_read c.deref.result.now (length c.deref.result.now) c.args.which c.in-Some-Replies.field-0.now refl c.in-Some-Replies.ensures.lookup.3.0 c.in-Some-Replies.ensures.lookup.1) ∙ ap (λ x. Some x) c.in-Some-Replies.field-0-is))
