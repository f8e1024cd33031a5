use Rattle.cs_normal.proofs.KeyedLemmas.Beside.{entry_is, no_entry, within}
use Rattle.cs_normal.proofs.keyed.keyed_changes.KeyedChanges.entry.Goals as goal

pub key-requires : goal.key-requires
key-requires c = within c.args.self.now c.args.at c.in-Some.change c.in-Some.ensures

pub returns-in-None : goal.returns-in-None
returns-in-None c = no_entry c.args.self.now c.args.at c.in-None.ensures

pub returns-in-Some : goal.returns-in-Some
returns-in-Some c = entry_is c.args.self.now c.args.at c.key.result.now c.in-Some.change c.in-Some.ensures c.key.ensures
