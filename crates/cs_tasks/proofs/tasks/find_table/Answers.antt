use Rattle.std.proofs.Common.{sym, ◌∙◌}
use Rattle.cs_tasks.specs.Facts.{fits_same}
use Rattle.cs_tasks.proofs.tasks.find_table.Goals as goal

pub returns-then-fits-clause-marks : goal.returns-then-fits-clause-marks
returns-then-fits-clause-marks c = fits_same c.args.group.now c.in-Some.table.now (sym c.fits.ensures ∙ c.if-fits.true)
