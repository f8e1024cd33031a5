use Rattle.cs_pending.proofs.Several.{one_edits}
use Rattle.cs_pending.proofs.laws.one_edits.Goals as goal

pub returns : goal.returns
returns c = one_edits
