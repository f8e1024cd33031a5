use Rattle.std.proofs.Common.{◌≡◌, length, refl, ap, ◌∙◌, arith}
use Rattle.std.specs.List.{slice_range}
use Rattle.cs_apply.specs.Slots.{slots_in}
use Rattle.cs_apply.specs.declared.slots.KeysAndRows.{KeysAndRows}
use Rattle.cs_apply.proofs.Holding.{AreMore, key_put, on_err, slots_stay, slots_more}
use Rattle.cs_apply.proofs.slots.push.Goals as goal

pub returns-in_err-before-clause-err : goal.returns-in_err-before-clause-err
returns-in_err-before-clause-err c =
    let held = c.args.held.now in
    let now : KeysAndRows = record { keys = c.extend_from_slice.new.self; rows = c.put_row.new.rows } in
    let grown : AreMore held now = record {
      more = c.args.stored.now.key.now;
      keys = c.in_ok-extend_from_slice.ensures.items;
      rows = c.put_row.ensures.grown;
    } in
    on_err _ (slots_stay held now grown c.args.spots.now.items c.requires)

pub returns-in_err-push-clause-err : goal.returns-in_err-push-clause-err
returns-in_err-push-clause-err c =
    let held = c.args.held.now in
    let now : KeysAndRows = record { keys = c.extend_from_slice.new.self; rows = c.put_row.new.rows } in
    let grown : AreMore held now = record {
      more = c.args.stored.now.key.now;
      keys = c.in_ok-extend_from_slice.ensures.items;
      rows = c.put_row.ensures.grown;
    } in
    on_err _ (ap (slots_in now) c.in_err-push.ensures.items ∙ slots_stay held now grown c.args.spots.now.items c.requires)

pub returns-clause-ok : goal.returns-clause-ok
returns-clause-ok c =
    let held = c.args.held.now in
    let now : KeysAndRows = record { keys = c.extend_from_slice.new.self; rows = c.put_row.new.rows } in
    let put = c.in_ok-extend_from_slice.ensures.items in
    let grown : AreMore held now = record { more = c.args.stored.now.key.now; keys = put; rows = c.put_row.ensures.grown } in
    let from : c.len-key.result ≡ length held.keys.items = omega arith in
    let past : c.len-past.result ≡ length now.keys.items = omega arith in
    let key : slice_range now.keys.items c.len-key.result c.len-past.result ≡ c.args.stored.now.key.now =
    rw (from, past, put) (key_put held.keys.items c.args.stored.now.key.now) in
    let row = c.in_ok-before.ensures.stands ∙ c.as_ref.ensures.value in
    ap (slots_in now) c.in_ok-push.ensures.items
    ∙ slots_more held now grown c.args.spots.now.items c.requires c.args.stored.now _ (rw (key, row) refl)
