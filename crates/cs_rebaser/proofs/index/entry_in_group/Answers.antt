use Rattle.std.proofs.Common.{◌≡◌, ◌∙◌, ◌<◌, get_or, length, sym, arith}
use Rattle.std.specs.Prelude.{slice_index_or}
use Rattle.std.specs.declared.cmp.Ordering.TheVariants.{Less, Equal, Greater}
use Rattle.std.proofs.lemmas.List.{get_or_default}
use Rattle.cs_change.specs.Spelling.{marks_of}
use Rattle.cs_order.specs.Order.{by_bytes}
use Rattle.cs_rebaser.specs.Rebased.{entry_key}
use Rattle.cs_rebaser.proofs.Halves.{above_there, below_more, past_end}
use Rattle.cs_rebaser.proofs.Searches.{entry_found, entry_missing, in_order, key_there_is, long_as, told_of}
use Rattle.cs_rebaser.proofs.index.entry_in_group.Goals as goal

pub loop-low-init : goal.loop-low-init
loop-low-init c =
    let group = c.args.group.now in
    let order = c.args.order.now in
    record {
      within = omega arith;
      high = omega (arith, c.len-high.ensures);
      at = λ some. (omega arith, omega (arith, some, c.min-at.ensures, c.saturating_sub.ensures));
      below = λ j e before got. absurd (omega (arith, before));
      above = past_end (in_order group order) c.args.key.now _ (omega (arith, c.len-high.ensures, long_as group order c.requires.ordered));
    }

pub loop-low-preserved-in-Less : goal.loop-low-preserved-in-Less
loop-low-preserved-in-Less c =
    let i = c.loop-low.invariant in
    let group = c.args.group.now in
    let order = c.args.order.now in
    let key = c.args.key.now in
    let at = c.loop-low.at in
    let entry = c.index-entries-index.result in
    let less : at < length order.order.items = omega (arith, (i.at c.loop-low-test.true).1, i.high) in
    let place_is : slice_index_or order.order.items at 0 ≡ c.index.result.now = get_or_default order.order.items at 0 c.index.result.now less ∙ sym c.index.ensures in
    let here : entry ≡ get_or group.entries (slice_index_or order.order.items at 0) entry = rw (place_is, ← c.as_slice-entries.ensures) c.index-entries-index.is in
    let told : by_bytes (entry_key (marks_of group.marks) entry) key ≡ Less = told_of _ _ (marks_of group.marks) entry key _ _ c.requires.front c.requires.ordered.marks c.in_ok-compared.ensures c.in-Less.is in
    record {
      within = omega (arith, i.at c.loop-low-test.true);
      high = i.high;
      at = c.at_from_low-at.ensures;
      below = below_more (in_order group order) key (entry_key (marks_of group.marks) entry) at c.requires.ordered.rising (omega (arith, less, long_as group order c.requires.ordered)) (key_there_is group order at entry c.requires.ordered less here) told;
      above = i.above;
    }

pub loop-low-preserved : goal.loop-low-preserved
loop-low-preserved c =
    let i = c.loop-low.invariant in
    let group = c.args.group.now in
    let order = c.args.order.now in
    let key = c.args.key.now in
    let at = c.loop-low.at in
    let entry = c.index-entries-index.result in
    let less : at < length order.order.items = omega (arith, (i.at c.loop-low-test.true).1, i.high) in
    let place_is : slice_index_or order.order.items at 0 ≡ c.index.result.now = get_or_default order.order.items at 0 c.index.result.now less ∙ sym c.index.ensures in
    let here : entry ≡ get_or group.entries (slice_index_or order.order.items at 0) entry = rw (place_is, ← c.as_slice-entries.ensures) c.index-entries-index.is in
    let told : by_bytes (entry_key (marks_of group.marks) entry) key ≡ Greater = told_of _ _ (marks_of group.marks) entry key _ _ c.requires.front c.requires.ordered.marks c.in_ok-compared.ensures c.in-Greater.is in
    record {
      within = omega (arith, i.at c.loop-low-test.true);
      high = omega (arith, (i.at c.loop-low-test.true).1, i.high);
      at = c.at_from_high-at.ensures;
      below = i.below;
      above = above_there (in_order group order) key (entry_key (marks_of group.marks) entry) at (key_there_is group order at entry c.requires.ordered less here) told;
    }

pub returns : goal.returns
returns c =
    let i = c.loop-low.invariant in
    let met : c.loop-low.low ≡ c.loop-low.high = omega (arith, c.loop-low-test.false, i.within) in
    entry_missing c.args.group.now c.args.order.now c.args.key.now c.loop-low.high c.requires.ordered (rw met at i.below) i.above

pub returns-in-Equal : goal.returns-in-Equal
returns-in-Equal c =
    let i = c.loop-low.invariant in
    let group = c.args.group.now in
    let order = c.args.order.now in
    let key = c.args.key.now in
    let at = c.loop-low.at in
    let entry = c.index-entries-index.result in
    let less : at < length order.order.items = omega (arith, (i.at c.loop-low-test.true).1, i.high) in
    let place_is : slice_index_or order.order.items at 0 ≡ c.index.result.now = get_or_default order.order.items at 0 c.index.result.now less ∙ sym c.index.ensures in
    let here : entry ≡ get_or group.entries (slice_index_or order.order.items at 0) entry = rw (place_is, ← c.as_slice-entries.ensures) c.index-entries-index.is in
    let told : by_bytes (entry_key (marks_of group.marks) entry) key ≡ Equal = told_of _ _ (marks_of group.marks) entry key _ _ c.requires.front c.requires.ordered.marks c.in_ok-compared.ensures c.in-Equal.is in
    entry_found group order at entry key c.requires.ordered less here told
