use Rattle.cs_tasks.proofs.BlobFits.{blob_fits}
use Rattle.cs_tasks.proofs.laws.blob_fits.Goals as goal

pub returns : goal.returns
returns c = blob_fits
