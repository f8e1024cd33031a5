use Rattle.std.proofs.Common.{◌++◌, ◌∷◌, [], ap, sym, ◌∙◌, arith}
use Rattle.std.proofs.lemmas.List.{map-append}
use Rattle.cs_store.specs.Written.{item_of, items_of}
use Rattle.cs_map_store.specs.Packed.{no_item}
use Rattle.cs_map_store.proofs.Ranging.{part_more}
use Rattle.cs_map_store.proofs.log.PackedLog.copies.Goals as goal

pub loop-at-preserved : goal.loop-at-preserved
loop-at-preserved c =
    let items = c.args.self.now.items in
    let entry = c.in_ok-copy.field-0 in
    ap items_of c.in_ok-push.ensures.items ∙ map-append item_of c.loop-at.entries.items (entry ∷ [])
    ∙ (λ i. c.loop-at.invariant i ++ c.in_ok-copy.ensures i ∷ [])
    ∙ sym (part_more items c.args.start c.loop-at.at no_item (omega arith) (omega arith))
