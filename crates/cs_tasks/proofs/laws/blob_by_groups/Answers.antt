use Rattle.cs_tasks.proofs.Blobs.{blob_by_groups}
use Rattle.cs_tasks.proofs.laws.blob_by_groups.Goals as goal

pub returns : goal.returns
returns c = blob_by_groups
