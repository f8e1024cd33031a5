use Rattle.cs_widening.proofs.Decided.{can_widen_or_not}
use Rattle.cs_widening.proofs.laws.can_widen_or_not.Goals as goal

pub returns : goal.returns
returns c = can_widen_or_not
