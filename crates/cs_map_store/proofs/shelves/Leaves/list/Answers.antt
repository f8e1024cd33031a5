use Rattle.std.proofs.Common.{List, ap, subst, ◌∙◌}
use Rattle.std.specs.Prelude.{pos}
use Rattle.std.specs.FinMap.{get}
use Rattle.cs_store.specs.Contents.{Bodies, IsListing}
use Rattle.cs_store.specs.Written.{pairs_of}
use Rattle.cs_leaf.specs.Entries.{Entry}
use Rattle.cs_map_store.specs.Leaves.{flat, in_table}
use Rattle.cs_map_store.proofs.Holding.{table_listed}
use Rattle.cs_map_store.proofs.shelves.Leaves.list.Goals as goal

pub returns : goal.returns
returns c =
    let pairs = pairs_of c.in_ok-rows.rows.items in
    let its = c.in_ok-rows.ensures ∙ ap (λ (leaves : List (List Entry)). in_table (pos c.args.table) (flat leaves)) c.as_slice.ensures.value in
    subst (λ (bodies : Bodies). IsListing (λ key. get bodies (pos c.args.table, key)) pairs) c.self.view_is
    (table_listed c.self.inside.leaves.items c.args.table pairs c.self.invariant.rise its)
