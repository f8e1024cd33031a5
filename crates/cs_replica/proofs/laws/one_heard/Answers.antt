use Rattle.cs_replica.proofs.OneHeard.{one_heard}
use Rattle.cs_replica.proofs.laws.one_heard.Goals as goal

pub returns : goal.returns
returns c = one_heard c.one_contents.ensures.contents c.one_view.ensures.one c.one_answered_by.ensures
