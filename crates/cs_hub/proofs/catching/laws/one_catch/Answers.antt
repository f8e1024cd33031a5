use Rattle.cs_hub.proofs.CatchingLemmas.Runs as law
use Rattle.cs_hub.proofs.catching.laws.one_catch.Goals as goal

pub returns : goal.returns
returns c = law.one_catch c.one_join.ensures
