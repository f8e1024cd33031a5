use Rattle.std.proofs.Common.{◌≡◌, ◌∙◌, ◌<◌, get_or, length, sym, arith}
use Rattle.std.specs.Prelude.{slice_index_or}
use Rattle.std.specs.declared.cmp.Ordering.TheVariants.{Equal, Greater}
use Rattle.std.proofs.lemmas.List.{get_or_default}
use Rattle.cs_change.specs.Spelling.{marks_of}
use Rattle.cs_order.specs.Order.{by_bytes}
use Rattle.cs_rebaser.specs.Rebased.{entry_key}
use Rattle.cs_rebaser.proofs.Halves.{above_there}
use Rattle.cs_rebaser.proofs.Searches.{entry_found, entry_missing, in_order, key_there_is, told_of}
use Rattle.cs_rebaser.proofs.index.entry_near.Goals as goal

pub returns-in-Equal : goal.returns-in-Equal
returns-in-Equal c =
    let group = c.args.group.now in
    let order = c.args.order.now in
    let key = c.args.key.now in
    let at = c.args.finger.now.near in
    let entry = c.index-as_slice-index.result in
    let less : at < length order.order.items = omega (arith, c.if-near-len.true, c.len.ensures) in
    let place_is : slice_index_or order.order.items at 0 ≡ c.index.result.now = get_or_default order.order.items at 0 c.index.result.now less ∙ sym c.index.ensures in
    let here : entry ≡ get_or group.entries (slice_index_or order.order.items at 0) entry = rw (place_is, ← c.as_slice.ensures) c.index-as_slice-index.is in
    let told : by_bytes (entry_key (marks_of group.marks) entry) key ≡ Equal = told_of _ _ (marks_of group.marks) entry key _ _ c.requires.front c.requires.ordered.marks c.in_ok-compare_key.ensures c.in-Equal.is in
    entry_found group order at entry key c.requires.ordered less here told

pub returns-in-Greater : goal.returns-in-Greater
returns-in-Greater c =
    let group = c.args.group.now in
    let order = c.args.order.now in
    let key = c.args.key.now in
    let at = c.args.finger.now.near in
    let entry = c.index-as_slice-index.result in
    let first : at ≡ 0 = omega (arith, c.if-near-eq0.true) in
    let less : at < length order.order.items = omega (arith, c.if-near-len.true, c.len.ensures) in
    let place_is : slice_index_or order.order.items at 0 ≡ c.index.result.now = get_or_default order.order.items at 0 c.index.result.now less ∙ sym c.index.ensures in
    let here : entry ≡ get_or group.entries (slice_index_or order.order.items at 0) entry = rw (place_is, ← c.as_slice.ensures) c.index-as_slice-index.is in
    let told : by_bytes (entry_key (marks_of group.marks) entry) key ≡ Greater = told_of _ _ (marks_of group.marks) entry key _ _ c.requires.front c.requires.ordered.marks c.in_ok-compare_key.ensures c.in-Greater.is in
    entry_missing group order key at c.requires.ordered (λ j e before got. absurd (omega (arith, before, first))) (above_there (in_order group order) key (entry_key (marks_of group.marks) entry) at (key_there_is group order at entry c.requires.ordered less here) told)
