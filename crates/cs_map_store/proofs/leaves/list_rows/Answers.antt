use Rattle.std.proofs.Common.{◌≡◌, ◌++◌, [], ◌+◌, List, ℕ, take, ap, sym, ◌∙◌}
use Rattle.std.specs.Prelude.{pos}
use Rattle.std.proofs.lemmas.List.{take_more, append-nil}
use Rattle.cs_leaf.specs.Entries.{Entry}
use Rattle.cs_map_store.specs.Leaves.{flat, in_table}
use Rattle.cs_map_store.proofs.Leafing.{flat_append, in_table_append}
use Rattle.cs_map_store.proofs.leaves.list_rows.Goals as goal

pub loop-leaf-preserved : goal.loop-leaf-preserved
loop-leaf-preserved c =
    let leaves = c.args.leaves.now in
    let k = c.loop-leaf.leaf-index in
    let t = pos c.args.table in
    let more : flat (take (k + 1) leaves) ≡ flat (take k leaves) ++ c.leaf-item.result =
    ap flat (take_more leaves k c.leaf-item.result c.loop-leaf-test.true) ∙ flat_append (take k leaves) _ ∙ ap (λ (l : List Entry). flat (take k leaves) ++ (l ++ [])) (sym c.leaf-item.is) ∙ ap (λ (l : List Entry). flat (take k leaves) ++ l) (append-nil c.leaf-item.result) in
    c.in_ok-list_leaf.ensures ∙ ap (λ (ps : List (List ℕ × List ℕ)). ps ++ in_table t c.leaf-item.result) c.loop-leaf.invariant ∙ sym (in_table_append t (flat (take k leaves)) c.leaf-item.result) ∙ ap (in_table t) (sym more)
