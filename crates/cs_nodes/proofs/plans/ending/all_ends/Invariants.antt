use Rattle.std.proofs.Common.{◌≡◌, ◌+◌, ◌++◌, ◌≤◌, Ok, length, map, vec_capacity, vec_len}
use Rattle.std.specs.Vec.Iter.{into_iter_items}
use Rattle.cs_nodes.proofs.plans.ending.all_ends.Given as goal

abbrev pub invariant-results : goal.invariant-results
invariant-results l = record {
  taken : map (λ end. Ok end) l.ends.items ++ into_iter_items l.result-iterator ≡ l.fn.results.items;
  room : vec_len l.ends + length (into_iter_items l.result-iterator) ≤ vec_capacity l.ends;
}
