use Rattle.std.proofs.Common.{◌≡◌, ◌+◌, ◌∷◌, [], ◌++◌, ◌∙◌, List, true, false, take, drop, fold, ap, sym, subst}
use Rattle.std.proofs.lemmas.List.{drop_more}
use Rattle.cs_store.specs.edits.Edits.{BodyEdit}
use Rattle.cs_store.specs.Written.{edit_body}
use Rattle.cs_leaf.specs.Edits.{Rise}
use Rattle.cs_map_store.specs.Leaves.{is_last_of}
use Rattle.cs_map_store.proofs.Ordered.{fall_tail, head_at, keep_last, keep_same, skip_rise, skip_same}
use Rattle.cs_map_store.proofs.edits.last_of_each.Goals as goal
use Rattle.cs_map_store.proofs.edits.last_of_each.Goals.{then-is_last+in_ok-push, else-is_last}

pub loop-at-preserved : goal.loop-at-preserved
loop-at-preserved c =
    let edits = c.args.edits.now in
    let at = c.loop-at.at in
    let was = c.loop-at.invariant in
    let out = c.loop-at.latest in
    let head = head_at edits at c.loop-at-test.true in
    elim c.if-is_last.branch [
      | then-is_last+in_ok-push w ↦
          let v = w.index-edits-at.result in
          let is : drop at edits ≡ v ∷ drop (at + 1) edits = drop_more edits at v c.loop-at-test.true ∙ ap (λ e. e ∷ drop (at + 1) edits) (sym w.index-edits-at.is) in
          let grown : c.if-is_last.latest ≡ out ++ v ∷ [] = w.latest-is ∙ w.in_ok-push.ensures.ok in
          let last : is_last_of (drop at edits) ≡ true = sym c.is_last.ensures ∙ w.if-is_last.true in
          record {
            order = fall_tail (drop at edits) (drop (at + 1) edits) v is was.order;
            rise = keep_last out c.if-is_last.latest (drop at edits) (drop (at + 1) edits) v is was.order last grown was.rise;
            same = λ rows. ap (fold edit_body rows) (keep_same out c.if-is_last.latest (drop at edits) (drop (at + 1) edits) v is grown) ∙ was.same rows;
          }
      | else-is_last w ↦
          let stays : c.if-is_last.latest ≡ out = w.latest-is in
          let last : is_last_of (drop at edits) ≡ false = sym c.is_last.ensures ∙ w.if-is_last.false in
          record {
            order = fall_tail (drop at edits) (drop (at + 1) edits) head.0 head.1 was.order;
            rise = subst (λ (es : List BodyEdit). Rise (es ++ take 1 (drop (at + 1) edits))) (sym stays) (skip_rise out (drop at edits) (drop (at + 1) edits) head.0 head.1 last was.rise);
            same = λ rows. ap (λ (es : List BodyEdit). fold edit_body rows (es ++ drop (at + 1) edits)) stays ∙ skip_same rows out (drop at edits) (drop (at + 1) edits) head.0 head.1 last ∙ was.same rows;
          }
    ]
