use Rattle.std.proofs.Common.{◌≡◌, ◌+◌, ◌∷◌, List, fold, drop, ap, sym, subst, ◌∙◌, ◌++◌, arith}
use Rattle.cs_store.specs.edits.Edits.{BodyEdit}
use Rattle.cs_leaf.specs.Edits.{Rise, edited}
use Rattle.cs_leaf.proofs.Merges.{drop_here, merge_more, rise_drop}
use Rattle.cs_leaf.proofs.merging.merge_some.Goals as goal

pub loop-at-preserved : goal.loop-at-preserved
loop-at-preserved c =
    let edits = c.args.edits.now in
    let k = c.loop-at.at in
    let was = c.loop-at.invariant in
    let edit = c.get.result in
    let here : drop k edits ≡ edit ∷ drop (k + 1) edits = drop_here edits k edit c.get.ensures in
    let rise : Rise (edit ∷ drop (k + 1) edits) = subst Rise here (rise_drop edits k c.requires.rise) in
    record {
      row = c.in_ok-row.ensures.bound;
      edit = omega (arith, was.edit);
      within = omega (arith, c.len.ensures);
      none = λ e. absurd (omega (arith, e, was.edit));
      merged = merge_more c.loop-at.merged c.merge_edit.new.merged c.args.leaf.now c.loop-at.row c.in_ok-row.row edit (drop (k + 1) edits) edits _ rise c.in_ok-row.ensures.merged
          (ap (λ (ws : List BodyEdit). c.loop-at.merged ++ fold edited (drop c.loop-at.row c.args.leaf.now) ws) (sym here) ∙ was.merged);
    }
