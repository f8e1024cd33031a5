use Rattle.std.proofs.Common.{List, length, subst, sym}
use Rattle.cs_change.specs.Spelling.{HasLength, change_spelling}
use Rattle.cs_change.specs.declared.change.Change.{Change}
use Rattle.cs_change.specs.declared.change.Change.TheVariants.{Update}
use Rattle.cs_normal.proofs.KeyedLemmas.Beside.{as_many_set, keys_stay, values_inside, values_set}
use Rattle.cs_normal.proofs.keyed.keyed_changes.KeyedChanges.replace_update.Goals as goal

pub replace_update-requires : goal.replace_update-requires
replace_update-requires c =
    let values = values_inside c.self.inside.keys c.self.inside.changes c.args.self.now c.self.inside.as_many c.self.view_is in
    let long = length (change_spelling (Update c.args.flag c.args.old.now c.args.new.now)) in
    subst (λ (cs : List Change). HasLength cs c.args.index long) (sym values) (c.requires.0, c.requires.1, c.requires.2)

pub invariant_of-self-inside : goal.invariant_of-self-inside
invariant_of-self-inside c =
    (as_many_set c.self.inside.keys c.self.inside.changes c.replace_update.new.self c.args.index (Update c.args.flag c.args.old.now c.args.new.now) c.self.inside.as_many c.replace_update.ensures, tt)

pub returns-clause-keys : goal.returns-clause-keys
returns-clause-keys c =
    let many = as_many_set c.self.inside.keys c.self.inside.changes c.replace_update.new.self c.args.index (Update c.args.flag c.args.old.now c.args.new.now) c.self.inside.as_many c.replace_update.ensures in
    keys_stay c.self.inside.keys c.self.inside.changes c.replace_update.new.self c.args.self.now c.self.inside.as_many c.self.view_is many

pub returns-clause-changes : goal.returns-clause-changes
returns-clause-changes c =
    values_set c.self.inside.keys c.self.inside.changes c.replace_update.new.self c.args.self.now c.args.index (Update c.args.flag c.args.old.now c.args.new.now) c.self.inside.as_many c.self.view_is c.replace_update.ensures
