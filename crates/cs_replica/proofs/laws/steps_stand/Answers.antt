use Rattle.cs_replica.proofs.Stood.{entry_stands, kept_stands, lead_stands}
use Rattle.cs_replica.proofs.laws.steps_stand.Goals as goal

pub returns-clause-kept : goal.returns-clause-kept
returns-clause-kept c = kept_stands

pub returns-clause-entry : goal.returns-clause-entry
returns-clause-entry c = entry_stands c.entry_leads.ensures

pub returns-clause-lead : goal.returns-clause-lead
returns-clause-lead c = lead_stands
