use Rattle.std.proofs.Common.{◌++◌, ◌∷◌, [], List, ap, ◌∙◌}
use Rattle.std.proofs.lemmas.List.{append-nil}
use Rattle.cs_store.specs.Contents.{LogItem}
use Rattle.cs_map_store.specs.Packed.{PackedItems, joined}
use Rattle.cs_map_store.proofs.Packing.{joined_push}
use Rattle.cs_map_store.proofs.log.begin.Goals as goal

pub returns-clause-items : goal.returns-clause-items
returns-clause-items c =
    let full = c.args.full.now.items in
    let done = c.shrink.new.self in
    let next = c.in_ok-next.next in
    (λ i. joined (c.push_reserved.ensures.items i) ++ (c.replace-done.ensures.after i).items)
    ∙ ap (λ (chunks : List PackedItems). joined (chunks ++ done ∷ []) ++ next.items) c.reserve.ensures.items
    ∙ ap (λ (items : List LogItem). joined (full ++ done ∷ []) ++ items) c.in_ok-next.ensures.items
    ∙ append-nil (joined (full ++ done ∷ [])) ∙ joined_push full done
    ∙ ap (λ (items : List LogItem). joined full ++ items) (c.shrink.ensures ∙ ap (λ (chunk : PackedItems). chunk.items) c.replace-done.ensures.value)
