use Rattle.std.proofs.Common.{sym, ◌∙◌}
use Rattle.cs_normal.proofs.KeyedLemmas.Found.{found, not_found}
use Rattle.cs_normal.proofs.keyed.keyed_changes.KeyedChanges.find.Goals as goal

pub find-requires : goal.find-requires
find-requires c = rw c.parts.ensures.keys c.requires

pub returns-in-None : goal.returns-in-None
returns-in-None c = sym (not_found c.args.self.now c.args.key.now (rw c.parts.ensures.keys at c.in-None.ensures))

pub returns-in-Some : goal.returns-in-Some
returns-in-Some c =
    let there = rw c.parts.ensures.keys at c.in-Some.ensures in
    c.change.ensures ∙ found c.args.self.now c.args.key.now c.in-Some.at c.requires there.0 there.1
