use Rattle.std.proofs.Common.{◌∙◌}
use Rattle.cs_normalising.proofs.lent_table.normal_at.Goals as goal

pub returns-then-is_normal : goal.returns-then-is_normal
returns-then-is_normal c = c.change_at-change.ensures ∙ c.is_normal.ensures c.if-is_normal.true
