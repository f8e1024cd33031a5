use Rattle.cs_normal.proofs.KeyedLemmas.KeyBytes as law
use Rattle.cs_normal.proofs.keyed.laws.bytes_tell_keys.Goals as goal

pub returns : goal.returns
returns c = law.keys_apart c.records.ensures.spelled
