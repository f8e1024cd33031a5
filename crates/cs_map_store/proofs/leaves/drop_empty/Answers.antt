use Rattle.std.proofs.Common.{◌≡◌, ◌<◌, List, length, rules, filter, ap, ◌∙◌}
use Rattle.std.specs.Prelude.{nat_lt}
use Rattle.std.proofs.lemmas.Fn.{filter_same, All-from_retain}
use Rattle.cs_leaf.specs.Entries.{Entry}
use Rattle.cs_map_store.specs.Leaves.{flat}
use Rattle.cs_map_store.proofs.Leafing.{flat_filter}
use Rattle.cs_map_store.proofs.leaves.drop_empty.Goals as goal

pub returns-clause-same : goal.returns-clause-same
returns-clause-same c =
    let is : c.retain.new.self.items ≡ filter (λ (leaf : List Entry). nat_lt 0 (length leaf)) c.args.leaves.now.items = filter_same _ _ _ (λ x b f' k. search rules) _ _ c.retain.ensures.filtered in
    ap flat is ∙ flat_filter c.args.leaves.now.items

pub returns-clause-full : goal.returns-clause-full
returns-clause-full c = All-from_retain _ (λ (leaf : List Entry). 0 < length leaf) _ (λ x b f' k. search rules) _ _ c.retain.ensures.filtered
