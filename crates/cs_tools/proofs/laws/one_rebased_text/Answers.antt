use Rattle.cs_tools.proofs.TextLaws.{one_rebased_text}
use Rattle.cs_tools.proofs.laws.one_rebased_text.Goals as goal

pub returns : goal.returns
returns c = one_rebased_text c.one_combined.ensures c.changesets.ensures.one c.blobs.ensures.one
