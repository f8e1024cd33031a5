use Rattle.std.proofs.Common.{◌≡◌, [], List, ap, sym, subst, ◌∙◌, T}
use Rattle.std.specs.FinMap.{find, is_sorted}
use Rattle.std.proofs.lemmas.List.{get_or_default}
use Rattle.cs_store.specs.Contents.{StorePlace, place_cmp}
use Rattle.cs_leaf.specs.Entries.{Entry}
use Rattle.cs_map_store.specs.Leaves.{nth_leaf}
use Rattle.cs_map_store.proofs.Leafing.{find_in_leaf, leaf_sorted}
use Rattle.cs_map_store.proofs.leaves.row_at.Goals as goal

pub look_up-next-requires : goal.look_up-next-requires
look_up-next-requires c =
    let leaves = c.args.leaves.now in
    let at = c.leaf_near-its.result in
    let less = c.leaf_near-its.ensures.bound in
    let its = c.index-leaves-its.is ∙ get_or_default leaves at c.index-leaves-its.result [] less in
    subst (λ (l : List Entry). T (is_sorted place_cmp l)) (sym its) (leaf_sorted leaves at c.requires.leaves.rise less)

pub returns : goal.returns
returns c =
    let leaves = c.args.leaves.now in
    let at = c.leaf_near-its.result in
    let p : StorePlace = c.args.place.now in
    let less = c.leaf_near-its.ensures.bound in
    let its : c.index-leaves-its.result ≡ nth_leaf leaves at = c.index-leaves-its.is ∙ get_or_default leaves at c.index-leaves-its.result [] less in
    c.look_up-next.ensures ∙ sym (find_in_leaf leaves at p c.requires.leaves less c.leaf_near-its.ensures.begins c.leaf_near-its.ensures.next ∙ ap (find place_cmp p) (sym its))
