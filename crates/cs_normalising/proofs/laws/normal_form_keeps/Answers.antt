use Rattle.cs_normalising.proofs.Keeps as law
use Rattle.cs_normalising.proofs.laws.normal_form_keeps.Goals as goal

pub returns : goal.returns
returns c = law.keeps
