use Rattle.std.proofs.Common.{◌≡◌, ◌<◌, ap, sym, subst, arith, length, List, [], Some, ◌∙◌}
use Rattle.std.specs.declared.cmp.Ordering.TheVariants.{Equal}
use Rattle.std.proofs.lemmas.List.{get_or_default}
use Rattle.cs_order.specs.Facts.{equal_from}
use Rattle.cs_store.specs.Contents.{StorePlace, place_cmp}
use Rattle.cs_leaf.specs.Entries.{Entry, nth}
use Rattle.cs_map_store.specs.Leaves.{nth_leaf}
use Rattle.cs_map_store.proofs.Leafing.{find_met}
use Rattle.cs_map_store.proofs.leaves.row_if_at.Goals as goal

pub returns-then-is_eq : goal.returns-then-is_eq
returns-then-is_eq c =
    let leaves = c.args.leaves.now in
    let at = c.args.at.leaf in
    let row = c.args.at.row in
    let p : StorePlace = c.args.place.now in
    let leaf = c.index-leaves-at.result in
    let less : at < length leaves = omega (arith, c.if-at-leaves.false) in
    let its : leaf ≡ nth_leaf leaves at = c.index-leaves-at.is ∙ get_or_default leaves at leaf [] less in
    let within : row < length leaf = omega (arith, c.if-at-len.true, c.len.ensures) in
    let equal : place_cmp (nth leaf row).0 p ≡ Equal = sym c.compare.ensures ∙ equal_from c.compare.result (sym c.if-is_eq.ensures) in
    find_met leaves at row p c.requires.rise less (subst (λ (l : List Entry). row < length l) its within) (subst (λ (l : List Entry). place_cmp (nth l row).0 p ≡ Equal) its equal)
    ∙ ap Some (ap (λ (l : List Entry). (nth l row).1) (sym its) ∙ sym c.row.ensures)
