use Rattle.std.proofs.Common.{◌≡◌, ◌++◌, take}
use Rattle.cs_normalising.proofs.table_form.lend_group.Given as goal

abbrev pub invariant-loop-change : goal.invariant-loop-change
invariant-loop-change l = l.lent.items ≡ l.fn.lent.items ++ take l.change-index l.group.changes
