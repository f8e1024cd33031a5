use Rattle.std.proofs.Common.{◌≡◌, ◌<◌, ◌++◌, ◌∷◌, [], ◌∙◌, List, length, ap, refl}
use Rattle.std.specs.List.{All}
use Rattle.cs_leaf.specs.Entries.{Entry}
use Rattle.cs_map_store.specs.Leaves.{flat}
use Rattle.cs_map_store.proofs.Leafing.{leaf_more}
use Rattle.cs_map_store.proofs.leaves.push_cut.Goals as goal

-- a leaf behind what is still there
behind : (cut old new : List (List Entry)) (leaf : List Entry) → old ≡ cut → new ≡ old ++ leaf ∷ []
    → (flat new ≡ flat cut ++ leaf) × (0 < length leaf → All (λ leaf. 0 < length leaf) cut → All (λ leaf. 0 < length leaf) new)
behind cut old new leaf same grown = leaf_more cut new leaf (grown ∙ ap (λ (ls : List (List Entry)). ls ++ leaf ∷ []) same)

pub returns-then-len-clause-same : goal.returns-then-len-clause-same
returns-then-len-clause-same c = (behind c.args.cut.now.items c.args.cut.now.items c.push_reserved.new.self.items c.args.leaf refl c.push_reserved.ensures.items).0

pub returns-then-len-clause-full : goal.returns-then-len-clause-full
returns-then-len-clause-full c = (behind c.args.cut.now.items c.args.cut.now.items c.push_reserved.new.self.items c.args.leaf refl c.push_reserved.ensures.items).1

pub returns-in-Err-clause-same : goal.returns-in-Err-clause-same
returns-in-Err-clause-same c = (behind c.args.cut.now.items c.push_pieces.new.cut.items c.push_reserved-in-Err.new.self.items c.args.leaf c.in-Err.ensures.err.0 c.push_reserved-in-Err.ensures.items).0

pub returns-in-Err-clause-full : goal.returns-in-Err-clause-full
returns-in-Err-clause-full c = (behind c.args.cut.now.items c.push_pieces.new.cut.items c.push_reserved-in-Err.new.self.items c.args.leaf c.in-Err.ensures.err.0 c.push_reserved-in-Err.ensures.items).1
