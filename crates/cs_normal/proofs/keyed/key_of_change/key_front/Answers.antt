use Rattle.std.proofs.Common.{◌≡◌, false, [], ◌∷◌, ◌++◌, arith}
use Rattle.std.proofs.lemmas.Grind.{common_steps}
use Rattle.cs_normal.proofs.KeyedLemmas.KeyFronts.{shorter_front}
use Rattle.cs_normal.proofs.keyed.key_of_change.key_front.Goals as goal

pub loop-last-preserved : goal.loop-last-preserved
loop-last-preserved c =
    let e : c.loop-last.front.now ≡ c.in-Some.before.now ++ false ∷ [] = grind (arith, common_steps) in
    shorter_front c.in-Some.before.now _ (rw e at c.loop-last.invariant)
