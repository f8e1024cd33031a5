use Rattle.std.proofs.Common.{◌≡◌, ◌∷◌, rules}
use Rattle.cs_opening.proofs.Kept.{none_on}
use Rattle.cs_opening.proofs.wider.+have_no_key.Goals as goal

pub returns : goal.returns
returns g c =
    let parts : c.args.marks.now ≡ c.in-Some.mark.now ∷ c.in-Some.more.now = search rules in
    none_on c.args.marks.now c.in-Some.more.now c.in-Some.mark.now c.have_no_key.result parts c.if-mark.false c.have_no_key.ensures
