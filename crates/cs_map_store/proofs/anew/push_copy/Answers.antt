use Rattle.std.proofs.Common.{◌≡◌, [], ◌∷◌, ◌++◌, ◌∙◌, List, ap}
use Rattle.cs_leaf.specs.Entries.{Entry}
use Rattle.cs_map_store.proofs.Leafing.{leaf_more}
use Rattle.cs_map_store.proofs.anew.push_copy.Goals as goal

pub returns-clause-same : goal.returns-clause-same
returns-clause-same c =
    let made = c.args.made.now.items in
    let new = c.push.new.self.items in
    let grown : new ≡ made ++ c.args.leaf.now ∷ [] = c.in_ok-push.ensures.items ∙ ap (λ (leaf : List Entry). made ++ leaf ∷ []) c.in_ok-copied.ensures in
    (leaf_more made new c.args.leaf.now grown).0
