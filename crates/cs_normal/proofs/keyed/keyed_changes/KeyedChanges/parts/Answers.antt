use Rattle.cs_normal.proofs.KeyedLemmas.Beside.{keys_inside, values_inside}
use Rattle.cs_normal.proofs.keyed.keyed_changes.KeyedChanges.parts.Goals as goal

pub returns-clause-keys : goal.returns-clause-keys
returns-clause-keys c = keys_inside c.self.inside.keys c.self.inside.changes c.args.self.now c.self.inside.as_many c.self.view_is

pub returns-clause-changes : goal.returns-clause-changes
returns-clause-changes c = values_inside c.self.inside.keys c.self.inside.changes c.args.self.now c.self.inside.as_many c.self.view_is
