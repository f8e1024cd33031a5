use Rattle.std.proofs.Common.{◌++◌, ◌∷◌, [], List, ap, ◌∙◌}
use Rattle.cs_leaf.specs.declared.leaf.Spot.{Spot}
use Rattle.cs_leaf.proofs.Packing.{entries_pushed, spots_kept, spots_pushed}
use Rattle.cs_leaf.proofs.leaf.put.Goals as goal

pub returns-clause-within : goal.returns-clause-within
returns-clause-within c =
    let its = c.add_row.ensures in
    let new = c.add_row.new.bytes.items in
    let grown = c.push_reserved.ensures.items ∙ ap (λ (spots : List Spot). spots ++ c.in_ok-spot.spot ∷ []) c.reserve.ensures.items in
    spots_pushed new c.args.spots.now.items c.push_reserved.new.self.items c.in_ok-spot.spot (spots_kept c.args.bytes.now.items its.behind.0 new c.args.spots.now.items c.requires its.behind.1) c.in_ok-spot.ensures.spot grown

pub returns-clause-behind : goal.returns-clause-behind
returns-clause-behind c = (c.in_ok-spot.spot ∷ [], c.push_reserved.ensures.items ∙ ap (λ (spots : List Spot). spots ++ c.in_ok-spot.spot ∷ []) c.reserve.ensures.items)

pub returns-clause-ok : goal.returns-clause-ok
returns-clause-ok c =
    let its = c.add_row.ensures in
    let grown = c.push_reserved.ensures.items ∙ ap (λ (spots : List Spot). spots ++ c.in_ok-spot.spot ∷ []) c.reserve.ensures.items in
    entries_pushed c.args.bytes.now.items its.behind.0 c.add_row.new.bytes.items c.args.spots.now.items c.push_reserved.new.self.items c.in_ok-spot.spot (c.args.place.now, c.args.row.now) c.requires its.behind.1 grown c.in_ok-spot.ensures.entry
