use Rattle.std.proofs.Common.{length, ap, arith}
use Rattle.cs_apply.proofs.Numbering.{has_first, members_within}
use Rattle.cs_apply.proofs.sought.Reached.place_at.Goals as goal

pub bounds-group-0 : goal.bounds-group-0
bounds-group-0 c =
    let some = has_first c.args.tasks.now.places.1 c.args.groups.now c.requires.groups c.args.number c.requires.number in
    let long = ap length c.group.ensures in
    omega (arith, some, long)

pub place_of-requires-clause-within : goal.place_of-requires-clause-within
place_of-requires-clause-within c =
    let some = has_first c.args.tasks.now.places.1 c.args.groups.now c.requires.groups c.args.number c.requires.number in
    rw c.group.ensures (members_within c.args.tasks.now.places.1 c.args.groups.now c.requires.groups c.args.number c.requires.number 0 0 some)
