use Rattle.cs_value.specs.Facts.{same_row-Decides}
use Rattle.cs_opening.proofs.leading.are_same.Goals as goal

pub returns : goal.returns
returns c = rw c.same.ensures (same_row-Decides c.args.row.now c.args.other.now)
