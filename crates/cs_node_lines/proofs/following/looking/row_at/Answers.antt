use Rattle.std.proofs.Common.{◌≡◌, ◌∙◌, ap, sym, take}
use Rattle.std.specs.FinMap.{find}
use Rattle.cs_order.specs.Order.{by_bytes}
use Rattle.cs_pending.specs.Spots.{name_is, name_not}
use Rattle.cs_node_lines.specs.following.FollowStep.{behind_key}
use Rattle.cs_node_lines.proofs.FollowingLemmas.Found.{Rows, found_further, found_here}
use Rattle.cs_node_lines.proofs.following.looking.row_at.Goals as goal

pub returns-then-eq : goal.returns-then-eq
returns-then-eq c =
    let key = c.args.key.now in
    let is = sym c.as_slice.ensures ∙ name_is c.as_slice.result.now key (sym c.if-eq.ensures) in
    ap (λ (l : Rows). take 1 l) c.in-Some.ensures.cases.0
    ∙ (found_here key c.in-Some.row.now c.in-Some.more.now is
    ∙ (ap (λ (l : Rows). behind_key key (find by_bytes key l)) (sym c.in-Some.ensures.cases.0) ∙ c.loop-row.invariant))

pub loop-row-preserved : goal.loop-row-preserved
loop-row-preserved c =
    let key = c.args.key.now in
    let apart : c.in-Some.row.now.0 ≡ key → ⊥ = λ is. name_not c.as_slice.result.now key (sym c.if-eq.ensures) (c.as_slice.ensures ∙ is) in
    sym (ap (λ p. behind_key key p) (found_further key c.in-Some.row.now c.in-Some.more.now apart))
    ∙ (ap (λ (l : Rows). behind_key key (find by_bytes key l)) (sym c.in-Some.ensures.cases.0) ∙ c.loop-row.invariant)
