use Rattle.cs_map_store.proofs.Holding.{new_holds, no_names}
use Rattle.cs_map_store.proofs.Filled.{new_filled}
use Rattle.cs_map_store.proofs.map_store.MapStore.new.Goals as goal

pub invariant_of-result : goal.invariant_of-result
invariant_of-result c = record {
  filled = new_filled c.new-3.result c.new-3.ensures.empty;
  names = no_names c.new-3.result.entries c.new-3.ensures.empty;
}

pub returns : goal.returns
returns c = let held = new_holds c.new.result c.new-2.result c.new-3.result.entries c.new-4.result.items c.new.ensures c.new-2.ensures c.new-3.ensures.empty c.new-4.ensures in
    λ i. record { held = held i; misreads = 0 }
