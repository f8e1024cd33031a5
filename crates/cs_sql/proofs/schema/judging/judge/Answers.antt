use Rattle.std.proofs.Common.{◌≡◌, ◌∙◌, sym, Bool, true, false, IsTrue}
use Rattle.cs_sql.proofs.SchemaLemmas.Written.{front_is, store_is}
use Rattle.cs_sql.proofs.schema.judging.judge.Goals as goal

apart : (b : Bool) → b ≡ false → IsTrue b → ⊥
apart true f t = absurd cc
apart false f t = absurd cc

pub returns-then-is_ours : goal.returns-then-is_ours
returns-then-is_ours c = c.is_ours.ensures.0 c.if-is_ours.true ∙ store_is

pub returns-then-is_front : goal.returns-then-is_front
returns-then-is_front c = c.is_front.ensures.0 c.if-is_front.true ∙ front_is

pub returns-else-is_front : goal.returns-else-is_front
returns-else-is_front c = (
  λ fresh. apart c.is_fresh.result c.if-is_fresh.false (c.is_fresh.ensures.1 fresh),
  λ front. apart c.is_front.result c.if-is_front.false (c.is_front.ensures.1 (front ∙ sym front_is)),
  λ ours. apart c.is_ours.result c.if-is_ours.false (c.is_ours.ensures.1 (ours ∙ sym store_is)),
)
