use Rattle.cs_tools.proofs.TextLaws.{one_combined_text}
use Rattle.cs_tools.proofs.laws.one_combined_text.Goals as goal

pub returns : goal.returns
returns c = one_combined_text c.one_combined.ensures c.changesets.ensures.one
