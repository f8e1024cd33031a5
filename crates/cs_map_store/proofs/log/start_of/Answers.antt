use Rattle.std.proofs.Common.{◌≡◌, ◌-◌, suc, ap, ◌∙◌, arith}
use Rattle.cs_map_store.specs.Packed.{start_at}
use Rattle.cs_map_store.proofs.Packing.{no_spot, start_is}
use Rattle.cs_map_store.proofs.log.start_of.Goals as goal

pub returns-else-at-eq0 : goal.returns-else-at-eq0
returns-else-at-eq0 c =
    let next : suc (c.args.at - 1) ≡ c.args.at = omega arith in
    start_is c.args.spots.now 0 (c.args.at - 1) no_spot (omega arith) ∙ ap (start_at 0 c.args.spots.now) next
