use Rattle.cs_lines.specs.OneRun as once
use Rattle.cs_lines.proofs.laws.one_run.Goals as goal

pub returns : goal.returns
returns g c = once.one_run g.S.Serve.serves g.S.Serve.stays
