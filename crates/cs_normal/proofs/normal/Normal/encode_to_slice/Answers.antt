use Rattle.cs_normal.proofs.ReadAgain.{normal_is_taken}
use Rattle.cs_normal.proofs.normal.Normal.encode_to_slice.Goals as goal

pub returns-clause-taken : goal.returns-clause-taken
returns-clause-taken c = normal_is_taken c.args.self.now c.tables.ensures.normal
