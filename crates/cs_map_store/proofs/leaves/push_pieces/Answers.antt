use Rattle.std.proofs.Common.{◌≡◌, ◌++◌, ◌∙◌, List, ap, arith}
use Rattle.cs_leaf.specs.Entries.{Entry}
use Rattle.cs_map_store.proofs.Leafing.{leaves_more}
use Rattle.cs_map_store.proofs.leaves.push_pieces.Goals as goal

pub overflow_add-len : goal.overflow_add-len
overflow_add-len c =
    let pieces = c.in_ok-pieces.pieces in
    omega (arith, c.len.ensures, pieces.ok.1, pieces.small, c.requires, c.args.cut.now.small)

pub returns-clause-same : goal.returns-clause-same
returns-clause-same c =
    let cut = c.args.cut.now.items in
    let pieces = c.in_ok-pieces.pieces.items in
    let grown : c.append.new.self.items ≡ cut ++ pieces = c.in_ok-append.ensures.items ∙ ap (λ (ls : List (List Entry)). ls ++ pieces) c.reserve.ensures.items in
    leaves_more cut pieces c.append.new.self.items c.args.leaf.now grown c.in_ok-pieces.ensures.same
