use Rattle.cs_pending.proofs.PositionLemmas.Committed.{commit_shows_others}
use Rattle.cs_pending.proofs.position.laws.commit_shows_others.Goals as goal

pub returns : goal.returns
returns c = commit_shows_others c.commits.ensures.meta c.commits.ensures.other_rows c.commits.ensures.other_pending c.commits.ensures.other_names
