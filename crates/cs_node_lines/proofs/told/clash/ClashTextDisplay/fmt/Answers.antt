use Rattle.std.proofs.Common.{refl}
use Rattle.std.proofs.lemmas.Grind.{put_two}
use Rattle.cs_node_lines.proofs.told.clash.ClashTextDisplay.fmt.Goals as goal

pub returns-clause-writes : goal.returns-clause-writes
returns-clause-writes g c = λ plain ok.
    let a = c.in_ok-write_kind.ensures plain refl in
    let b = c.in_ok-write_table.ensures a.plain refl in
    let d = c.in_ok-write_change.ensures b.plain refl in
    let e = c.in_ok-write_own.ensures d.plain refl in
    let ab = put_two _ _ _ _ _ _ _ a b refl in
    let abd = put_two _ _ _ _ _ _ _ ab d refl in
    let abde = put_two _ _ _ _ _ _ _ abd e refl in
    put_two _ _ _ _ _ _ _ abde (c.write_local.ensures e.plain ok) refl
