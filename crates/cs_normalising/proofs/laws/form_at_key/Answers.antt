use Rattle.cs_normalising.proofs.Membership as law
use Rattle.cs_normalising.proofs.laws.form_at_key.Goals as goal

pub returns : goal.returns
returns c = law.form_at_key
