use Rattle.cs_normalising.proofs.FitForms as law
use Rattle.cs_normalising.proofs.laws.fit_has_form.Goals as goal

pub returns : goal.returns
returns c = law.fit_has_form
