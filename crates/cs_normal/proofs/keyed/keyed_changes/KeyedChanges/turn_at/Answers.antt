use Rattle.std.proofs.Common.{◌≡◌, ◌∙◌, List, ap, arith, length}
use Rattle.std.specs.Prelude.{slice_get, Some}
use Rattle.cs_change.specs.Listed.{one_there}
use Rattle.cs_change.specs.Then.{turned}
use Rattle.cs_change.specs.declared.change.Change.{Change}
use Rattle.cs_normal.proofs.KeyedLemmas.Beside.{as_many_set, keys_stay, values_inside, values_set}
use Rattle.cs_normal.proofs.keyed.keyed_changes.KeyedChanges.turn_at.Goals as goal

pub turn_at-requires : goal.turn_at-requires
turn_at-requires c =
    let values = values_inside c.self.inside.keys c.self.inside.changes c.args.self.now c.self.inside.as_many c.self.view_is in
    omega (arith, c.requires, ap length values)

pub invariant_of-self-inside : goal.invariant_of-self-inside
invariant_of-self-inside c =
    let values = values_inside c.self.inside.keys c.self.inside.changes c.args.self.now c.self.inside.as_many c.self.view_is in
    let there = one_there c.self.inside.changes c.args.index (omega (arith, c.requires, ap length values)) in
    (as_many_set c.self.inside.keys c.self.inside.changes c.turn_at.new.self c.args.index (turned there.0) c.self.inside.as_many (c.turn_at.ensures there.0 there.1), tt)

pub returns-clause-keys : goal.returns-clause-keys
returns-clause-keys c =
    let values = values_inside c.self.inside.keys c.self.inside.changes c.args.self.now c.self.inside.as_many c.self.view_is in
    let there = one_there c.self.inside.changes c.args.index (omega (arith, c.requires, ap length values)) in
    let many = as_many_set c.self.inside.keys c.self.inside.changes c.turn_at.new.self c.args.index (turned there.0) c.self.inside.as_many (c.turn_at.ensures there.0 there.1) in
    keys_stay c.self.inside.keys c.self.inside.changes c.turn_at.new.self c.args.self.now c.self.inside.as_many c.self.view_is many

pub returns-clause-changes : goal.returns-clause-changes
returns-clause-changes c = λ change there.
    let values = values_inside c.self.inside.keys c.self.inside.changes c.args.self.now c.self.inside.as_many c.self.view_is in
    let got : slice_get c.self.inside.changes c.args.index ≡ Some change = ap (λ (cs : List Change). slice_get cs c.args.index) values ∙ there in
    values_set c.self.inside.keys c.self.inside.changes c.turn_at.new.self c.args.self.now c.args.index (turned change) c.self.inside.as_many c.self.view_is (c.turn_at.ensures change got)
