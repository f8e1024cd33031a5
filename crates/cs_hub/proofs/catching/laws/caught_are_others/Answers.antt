use Rattle.cs_hub.proofs.CatchingLemmas.Leads as law
use Rattle.cs_hub.proofs.catching.laws.caught_are_others.Goals as goal

pub returns : goal.returns
returns c = record { told = law.caught_are_others; grows = law.others_as_log_grows; short = law.caught_is_short c.one_join.ensures }
