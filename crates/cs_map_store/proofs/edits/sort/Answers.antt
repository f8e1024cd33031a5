use Rattle.std.proofs.Common.{rules}
use Rattle.std.proofs.lemmas.Fn.{always_returns_same}
use Rattle.std.proofs.lemmas.List.Sorted.{ranks_by}
use Rattle.cs_leaf.specs.Edits.{store_place}
use Rattle.cs_store.specs.edits.Edits.{BodyEdit}
use Rattle.cs_map_store.proofs.Maps.{place_total}
use Rattle.cs_map_store.proofs.Ordered.{comes_before, sorted_edits_dont_fall, sorted_same}
use Rattle.cs_map_store.proofs.edits.sort.Goals as goal

pub returns-clause-order : goal.returns-clause-order
returns-clause-order c = sorted_edits_dont_fall c.sort_by.new.self.items
    (c.in_ok-sort_by.ensures.sorted comes_before (ranks_by place_total (λ (x : BodyEdit). store_place x)) (always_returns_same _ _ _ (λ a r next called. search rules)))

pub returns-clause-same : goal.returns-clause-same
returns-clause-same c = sorted_same c.args.edits.now.items c.sort_by.new.self.items
    (c.in_ok-sort_by.ensures.stable comes_before (ranks_by place_total (λ (x : BodyEdit). store_place x)) (always_returns_same _ _ _ (λ a r next called. search rules)))
