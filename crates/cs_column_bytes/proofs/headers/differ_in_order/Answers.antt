use Rattle.std.proofs.Common.{◌∙◌, sym, ap, is_eq}
use Rattle.cs_column_bytes.proofs.Columns.{alike_where_differ, differ_where_alike}
use Rattle.cs_column_bytes.proofs.headers.differ_in_order.Goals as goal

pub returns-then-is_eq : goal.returns-then-is_eq
returns-then-is_eq c = differ_where_alike _ _ c.ne.result (sym (c.is_eq.ensures ∙ ap is_eq c.compare.ensures) ∙ c.if-is_eq.true) c.ne.ensures

pub returns-else-is_eq : goal.returns-else-is_eq
returns-else-is_eq c = alike_where_differ _ _ c.is_eq.result (c.is_eq.ensures ∙ ap is_eq c.compare.ensures) c.if-is_eq.false
