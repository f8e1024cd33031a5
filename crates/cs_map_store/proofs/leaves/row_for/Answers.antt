use Rattle.std.proofs.Common.{sym, length, eqb-true}
use Rattle.cs_map_store.proofs.Leafing.{none_in}
use Rattle.cs_map_store.proofs.leaves.row_for.Goals as goal

pub returns-then-is_empty : goal.returns-then-is_empty
returns-then-is_empty c = sym (none_in c.args.leaves.now c.args.place.now (eqb-true (length c.args.leaves.now) 0 (sym c.if-is_empty.ensures)))
