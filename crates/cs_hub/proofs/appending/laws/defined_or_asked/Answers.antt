use Rattle.std.specs.Fn.{CalledAt}
use Rattle.cs_hub.proofs.AppendingLemmas.Found.{defined_or_conflict}
use Rattle.cs_hub.proofs.appending.laws.defined_or_asked.Goals as goal

pub returns : goal.returns
returns g c = defined_or_conflict (CalledAt g.H.FnMut) c.args._answer.now c.kind_tells.ensures c.normal_asks.ensures.unasked
