use Rattle.std.proofs.Common.{◌≡◌, ◌++◌, take}
use Rattle.cs_normalising.specs.NormalFormOf.{changes_of}
use Rattle.cs_normalising.proofs.table_form.lend_changes.Given as goal

abbrev pub invariant-loop-group : goal.invariant-loop-group
invariant-loop-group l = l.lent.items ≡ l.fn.lent.items ++ changes_of l.table.name (take l.group-index l.groups)
