use Rattle.std.specs.Cmp.{booleans_Decides}
use Rattle.std.proofs.lemmas.Slice.Eq.{slice_eq-Decides}
use Rattle.cs_nodes.proofs.tables.same_marks.Goals as goal

pub returns : goal.returns
returns c = slice_eq-Decides booleans_Decides c.args.left.now c.args.right.now _ c.eq.ensures
