use Rattle.cs_hub.proofs.CatchingLemmas.Runs as law
use Rattle.cs_hub.proofs.catching.laws.catch_has_answer.Goals as goal

pub returns : goal.returns
returns c = law.catch_has_answer (record { one = c.one_join.ensures; some = c.some_join.ensures.some; short = c.some_join.ensures.short })
