use Rattle.cs_hub.proofs.CatchingLemmas.Leads as law
use Rattle.cs_hub.proofs.catching.laws.one_consolidated.Goals as goal

pub returns : goal.returns
returns c = record { one = law.one_consolidated c.one_join.ensures; same = law.same_entries }
