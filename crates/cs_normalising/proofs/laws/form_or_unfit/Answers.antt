use Rattle.cs_normalising.proofs.Found.{form_or_unfit}
use Rattle.cs_normalising.proofs.laws.form_or_unfit.Goals as goal

pub returns : goal.returns
returns c = form_or_unfit c.fit_has_form.ensures
