use Rattle.std.proofs.Common.{◌≡◌, ◌+◌, ◌∷◌, List, fold, drop, ap, sym, subst, ◌∙◌, ◌++◌}
use Rattle.cs_store.specs.edits.Edits.{BodyEdit}
use Rattle.cs_leaf.specs.Edits.{Rise, edited}
use Rattle.cs_leaf.proofs.Merges.{drop_here, merge_more, rise_drop}
use Rattle.cs_leaf.proofs.merging.merged.Goals as goal

pub loop-at-preserved : goal.loop-at-preserved
loop-at-preserved c =
    let edits = c.args.edits.now in
    let k = c.loop-at.at in
    let edit = c.get.result in
    let here : drop k edits ≡ edit ∷ drop (k + 1) edits = drop_here edits k edit c.get.ensures in
    let rise : Rise (edit ∷ drop (k + 1) edits) = subst Rise here (rise_drop edits k c.requires.rise) in (
      c.in_ok-from.ensures.bound,
      merge_more c.loop-at.room c.merge_edit.new.merged c.args.leaf.now c.loop-at.from c.in_ok-from.from edit (drop (k + 1) edits) edits _ rise c.in_ok-from.ensures.merged
          (ap (λ (ws : List BodyEdit). c.loop-at.room ++ fold edited (drop c.loop-at.from c.args.leaf.now) ws) (sym here) ∙ c.loop-at.invariant.1),
    )
