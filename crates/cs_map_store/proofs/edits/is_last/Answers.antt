use Rattle.std.proofs.Common.{◌≡◌, ◌+◌, ◌∷◌, ◌∙◌, List, not, drop, ap, sym, arith}
use Rattle.std.specs.Ordering.{is_eq}
use Rattle.std.proofs.lemmas.List.{drop_more}
use Rattle.cs_store.specs.edits.Edits.{BodyEdit}
use Rattle.cs_map_store.specs.Leaves.{is_last_of}
use Rattle.cs_map_store.proofs.Ordered.{last_none}
use Rattle.cs_map_store.proofs.edits.is_last.Goals as goal

pub returns-then-at-edits : goal.returns-then-at-edits
returns-then-at-edits c = last_none c.args.edits.now c.args.at (omega (arith, c.if-at-edits.true))

pub returns : goal.returns
returns c =
    let edits = c.args.edits.now in
    let at = c.args.at in
    let v = c.index-edits-at.result in
    let w = c.index-edits-at-2.result in
    let here : drop at edits ≡ v ∷ drop (at + 1) edits = drop_more edits at v (omega (arith, c.requires)) ∙ ap (λ e. e ∷ drop (at + 1) edits) (sym c.index-edits-at.is) in
    let next : drop (at + 1) edits ≡ w ∷ drop (at + 1 + 1) edits = drop_more edits (at + 1) w (omega (arith, c.if-at-edits.false)) ∙ ap (λ e. e ∷ drop (at + 1 + 1) edits) (sym c.index-edits-at-2.is) in
    ap not (c.is_eq.ensures ∙ ap is_eq c.compare.ensures) ∙ sym (ap is_last_of (here ∙ ap (λ (es : List BodyEdit). v ∷ es) next))
