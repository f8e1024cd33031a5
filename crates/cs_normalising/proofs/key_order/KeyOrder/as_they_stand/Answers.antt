use Rattle.std.proofs.lemmas.List.FromFn.{length-range_with_len}
use Rattle.cs_normalising.proofs.key_order.KeyOrder.as_they_stand.Goals as goal

pub invariant_of-result : goal.invariant_of-result
invariant_of-result c = length-range_with_len 0 c.args.count
