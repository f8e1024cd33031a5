use Rattle.cs_tools.proofs.TextLaws.{one_shown_blob}
use Rattle.cs_tools.proofs.laws.one_shown_blob.Goals as goal

pub returns : goal.returns
returns c = one_shown_blob c.blobs.ensures.one
