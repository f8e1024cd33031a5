use Rattle.std.proofs.Common.{◌∙◌, sym, ap}
use Rattle.cs_group.proofs.laws.one_combined_spelling.Goals as goal
use Rattle.cs_normal.specs.Normal.{normal_spelling}

pub returns : goal.returns
returns c = λ changesets some others one other.
    one.spelled ∙ ap normal_spelling (c.one_combined.ensures changesets one.both other.both one.combined other.combined) ∙ sym other.spelled
