use Rattle.std.proofs.Common.{◌≡◌, map}
use Rattle.cs_order.specs.Order.{keys_behind}
use Rattle.cs_rebaser.specs.Rebased.{entry_key}
use Rattle.cs_rebaser.proofs.KeysLent.{same_keys}
use Rattle.cs_rebaser.proofs.orders.places_in_order.Goals as goal

pub returns-in-Some : goal.returns-in-Some
returns-in-Some c =
    let marks = c.args.marks.now in
    let entries = c.args.entries.now in
    let front = c.key_front-front.result.now in
    let lent : keys_behind c.in-Some.keys.items ≡ map (entry_key front) entries = rw c.in-Some.is at c.in_ok-lent.ensures in
    rw (c.as_slice.ensures.value, lent, same_keys front marks entries c.key_front-front.ensures) at c.order_of_keys.ensures

pub returns : goal.returns
returns c =
    let marks = c.args.marks.now in
    let entries = c.args.entries.now in
    let front = c.key_front-front.result.now in
    rw (c.in_ok-keys.ensures, same_keys front marks entries c.key_front-front.ensures) at c.order_of.ensures
