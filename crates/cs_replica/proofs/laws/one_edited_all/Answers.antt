use Rattle.cs_replica.proofs.OneEdits.{one_edited_all}
use Rattle.cs_replica.proofs.laws.one_edited_all.Goals as goal

pub returns : goal.returns
returns c = one_edited_all c.one_contents.ensures.contents
