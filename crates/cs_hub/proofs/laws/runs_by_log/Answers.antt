use Rattle.cs_hub.proofs.Runs.{runs_by_log}
use Rattle.cs_hub.proofs.laws.runs_by_log.Goals as goal

pub returns : goal.returns
returns g c = runs_by_log g.S.RowStore
