use Rattle.std.proofs.Common.{length, ap, arith, length-append}
use Rattle.cs_map_store.specs.Packed.{PackedItems, joined}
use Rattle.cs_map_store.proofs.Packing.{joined_long}
use Rattle.cs_map_store.proofs.log.PackedLog.len.Goals as goal

pub overflow_mul-result : goal.overflow_mul-result
overflow_mul-result c =
    let was = c.self.inside in
    omega (arith, was.full.ok.0, joined_long was.full.items c.self.invariant.0, length-append (joined was.full.items) was.last.items, c.self.invariant.2)

pub overflow_add-result : goal.overflow_add-result
overflow_add-result c =
    let was = c.self.inside in
    omega (arith, was.full.ok.0, joined_long was.full.items c.self.invariant.0, length-append (joined was.full.items) was.last.items, c.self.invariant.2)

pub overflow_cast-result : goal.overflow_cast-result
overflow_cast-result c =
    let was = c.self.inside in
    omega (arith, was.full.ok.0, joined_long was.full.items c.self.invariant.0, length-append (joined was.full.items) was.last.items, c.self.invariant.2)

pub returns : goal.returns
returns c =
    let was = c.self.inside in
    let same = ap (λ (log : PackedItems). length log.items) c.self.view_is in
    omega (arith, was.full.ok.0, joined_long was.full.items c.self.invariant.0, length-append (joined was.full.items) was.last.items, same)
