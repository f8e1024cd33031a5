use Rattle.cs_normalising.proofs.Leads as law
use Rattle.cs_normalising.proofs.laws.normal_form_leads.Goals as goal

pub returns : goal.returns
returns c = law.leads c.bytes_tell_keys.ensures
