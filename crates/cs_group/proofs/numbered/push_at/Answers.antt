use Rattle.std.proofs.Common.{◌≡◌, Some, None, rules, arith}
use Rattle.std.specs.Prelude.{slice_get}
use Rattle.std.proofs.lemmas.Grind.{common_steps}
use Rattle.cs_group.specs.Steps.Numbering.{numbered_behind}
use Rattle.cs_group.proofs.Numbering.{group_there, no_group_there}
use Rattle.cs_group.proofs.numbered.push_at.Goals as goal

pub returns-in_ok-push : goal.returns-in_ok-push
returns-in_ok-push c =
    let x = c.index-groups-place.result in
    let there : slice_get (numbered_behind c.args.groups.now) c.args.place ≡ Some (x.0, x.1.now) = group_there c.args.groups.now c.args.place x (omega (arith, c.if-place-groups.true)) c.index-groups-place.is in
    Prim.search (rules, common_steps)

pub returns-else-place-groups : goal.returns-else-place-groups
returns-else-place-groups c =
    let past : slice_get (numbered_behind c.args.groups.now) c.args.place ≡ None = no_group_there c.args.groups.now c.args.place (omega (arith, c.if-place-groups.false)) in
    Prim.search (rules, common_steps)
