use Rattle.std.proofs.Common.{◌≡◌, ◌+◌, ◌∙◌, ap, arith, []}
use Rattle.std.proofs.lemmas.List.{get_or_default}
use Rattle.std.specs.List.{splice}
use Rattle.cs_map_store.specs.Leaves.{nth_leaf}
use Rattle.cs_map_store.proofs.Leafing.{drained, flat_spliced, full_spliced}
use Rattle.cs_map_store.proofs.leaves.cut_leaf.Goals as goal

pub returns-clause-same : goal.returns-clause-same
returns-clause-same c =
    let it = c.in_ok-_old.ensures.items in
    let pieces = c.in_ok-pieces.pieces in
    let same = drained it.0 it.1 pieces.items it.3 it.2.0 (it.2.1 ∙ pieces.ok.0) in
    let is : c.splice.new.self.items ≡ splice c.args.leaves.now.items c.args.at (c.args.at + 1) pieces.items = it.4 ∙ ap (splice c.args.leaves.now.items c.args.at (c.args.at + 1)) same in
    let leaf : c.index-2.result.now ≡ nth_leaf c.args.leaves.now.items c.args.at = c.index-2.ensures ∙ get_or_default c.args.leaves.now.items c.args.at c.index-2.result.now [] (omega arith) in
    flat_spliced c.args.leaves.now.items pieces.items c.splice.new.self.items c.args.at (omega arith) is (c.in_ok-pieces.ensures.same ∙ leaf)

pub returns-clause-full : goal.returns-clause-full
returns-clause-full c =
    let it = c.in_ok-_old.ensures.items in
    let pieces = c.in_ok-pieces.pieces in
    let same = drained it.0 it.1 pieces.items it.3 it.2.0 (it.2.1 ∙ pieces.ok.0) in
    let is : c.splice.new.self.items ≡ splice c.args.leaves.now.items c.args.at (c.args.at + 1) pieces.items = it.4 ∙ ap (splice c.args.leaves.now.items c.args.at (c.args.at + 1)) same in
    full_spliced c.args.leaves.now.items pieces.items c.splice.new.self.items c.args.at is c.in_ok-pieces.ensures.full
