use Rattle.cs_replica.proofs.OneEdit.{one_edited}
use Rattle.cs_replica.proofs.laws.one_edited.Goals as goal

pub returns : goal.returns
returns c = one_edited c.one_contents.ensures.contents
