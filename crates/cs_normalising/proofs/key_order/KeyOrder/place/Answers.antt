use Rattle.std.proofs.Common.{◌≡◌, arith}
use Rattle.std.specs.List.{range_with_len}
use Rattle.std.proofs.lemmas.List.FromFn.{get_or-range_with_len, length-range_with_len}
use Rattle.cs_normalising.proofs.key_order.KeyOrder.place.Goals as goal

pub returns-in-None : goal.returns-in-None
returns-in-None c =
    let count = c.self.inside.count in
    let all : range_with_len 0 count ≡ c.args.self.now = rw c.in-None.is at c.self.view_is in
    let less = rw (← all) at c.requires in
    rw (← all) (omega (arith, get_or-range_with_len 0 count c.args.at 0 (omega (arith, less, length-range_with_len 0 count))))
