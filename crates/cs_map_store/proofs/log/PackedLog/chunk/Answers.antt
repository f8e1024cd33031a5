use Rattle.std.proofs.Common.{◌≡◌, ◌+◌, ◌*◌, ◌/◌, ◌%◌, ◌<◌, ◌++◌, ◌∙◌, List, length, get_or, ap, sym, arith, length-append}
use Rattle.cs_map_store.specs.Packed.{PackedItems, joined, no_item, nth_item}
use Rattle.cs_map_store.proofs.Packing.{in_full, in_last, joined_long, part_long}
use Rattle.cs_map_store.proofs.log.PackedLog.chunk.Goals as goal

pub returns-then-number-full-clause-same : goal.returns-then-number-full-clause-same
returns-then-number-full-clause-same c =
    let was = c.self.inside in
    let at = c.args.at in
    let chunk = c.index-full-number.result in
    let is : at ≡ 256 * (at / 256) + at % 256 = omega arith in
    let less : at / 256 < length was.full.items = omega (arith, ap length c.as_slice-full.ensures.value) in
    ap (λ (found : PackedItems). nth_item found.items (at % 256)) (c.index-full-number.is ∙ ap (λ (chunks : List PackedItems). get_or chunks (at / 256) chunk) c.as_slice-full.ensures.value)
    ∙ sym (in_full was.full.items was.last.items (at / 256) (at % 256) chunk no_item c.self.invariant.0 less (omega arith))
    ∙ sym (ap (nth_item (joined was.full.items ++ was.last.items)) is)
    ∙ ap (λ (log : PackedItems). nth_item log.items at) c.self.view_is

pub returns-else-number-full-clause-within : goal.returns-else-number-full-clause-within
returns-else-number-full-clause-within c =
    let was = c.self.inside in
    let same = ap (λ (log : PackedItems). length log.items) c.self.view_is in
    let part = part_long was.last c.self.invariant.1 in
    let long = joined_long was.full.items c.self.invariant.0 in
    omega (arith, was.full.ok.0, ap length c.as_slice-full.ensures.value, long, length-append (joined was.full.items) was.last.items, same, part)

pub returns-else-number-full-clause-same : goal.returns-else-number-full-clause-same
returns-else-number-full-clause-same c =
    let was = c.self.inside in
    let at = c.args.at in
    let same = ap (λ (log : PackedItems). length log.items) c.self.view_is in
    let part = part_long was.last c.self.invariant.1 in
    let long = joined_long was.full.items c.self.invariant.0 in
    let is : at ≡ 256 * length was.full.items + at % 256 =
    omega (arith, was.full.ok.0, ap length c.as_slice-full.ensures.value, long, length-append (joined was.full.items) was.last.items, same, part) in
    sym (in_last was.full.items was.last.items at (at % 256) no_item c.self.invariant.0 is) ∙ ap (λ (log : PackedItems). nth_item log.items at) c.self.view_is
