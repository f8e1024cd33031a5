use Rattle.std.proofs.Common.{List, [], ◌∷◌, ◌++◌, ap, sym, ◌∙◌}
use Rattle.cs_store.specs.edits.Edits.{BodyEdit}
use Rattle.cs_map_store.proofs.Leafing.{up_to}
use Rattle.cs_map_store.proofs.edits.listed.Goals as goal

pub loop-at-preserved : goal.loop-at-preserved
loop-at-preserved c =
    c.in_ok-push.ensures.items ∙ ap (λ (list : List BodyEdit). list ++ c.get.result ∷ []) c.loop-at.invariant
    ∙ sym (up_to c.args.edits.now c.loop-at.at c.get.result c.get.ensures)
