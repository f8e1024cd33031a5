use Rattle.cs_tools.proofs.TextLaws.{one_shown_changeset}
use Rattle.cs_tools.proofs.laws.one_shown_changeset.Goals as goal

pub returns : goal.returns
returns c = one_shown_changeset c.changesets.ensures.one
