use Rattle.std.proofs.Common.{◌≡◌, ◌<◌, false, Some, ap, sym, ◌∙◌, length, arith}
use Rattle.std.specs.Ordering.{is_eq}
use Rattle.cs_order.specs.Facts.{equal_from}
use Rattle.cs_store.specs.Contents.{place_cmp}
use Rattle.cs_leaf.specs.Entries.{nth}
use Rattle.cs_leaf.proofs.Finding.{find_there, find_nothing}
use Rattle.cs_leaf.proofs.leaf.Leaf.look_up.Goals as goal
use Rattle.cs_leaf.proofs.leaf.Leaf.look_up.Goals.{else-at-len-via-then-at-len+else-is_eq, else-at-len-via-else-at-len}

pub returns-then-is_eq : goal.returns-then-is_eq
returns-then-is_eq c =
    let there = find_there c.args.self.now c.search_near-at.result c.args.place.now (omega (arith, c.if-at-len.true, c.len.ensures)) c.requires c.search_near-at.ensures.found
    (sym c.compare.ensures ∙ equal_from c.compare.result (sym c.if-is_eq.ensures)) in
    ap Some c.row.ensures ∙ sym there

pub returns-else-at-len : goal.returns-else-at-len
returns-else-at-len c =
    let apart : c.search_near-at.result < length c.args.self.now → is_eq (place_cmp (nth c.args.self.now c.search_near-at.result).0 c.args.place.now) ≡ false = elim c.else-at-len.branch [
      | else-at-len-via-then-at-len+else-is_eq w ↦ λ h. ap is_eq (sym w.compare.ensures) ∙ sym w.if-is_eq.ensures
      | else-at-len-via-else-at-len w ↦ λ h. absurd (omega (arith, h, w.if-at-len.false, c.len.ensures))
    ] in
    sym (find_nothing c.args.self.now c.search_near-at.result c.args.place.now c.search_near-at.ensures.bound c.requires c.search_near-at.ensures.found apart)
