use Rattle.cs_tasks.proofs.Blobs.{unanswered_change, unanswered_group}
use Rattle.cs_tasks.proofs.laws.unanswered_adds_nothing.Goals as goal

pub returns : goal.returns
returns c = record { group = unanswered_group; change = unanswered_change }
