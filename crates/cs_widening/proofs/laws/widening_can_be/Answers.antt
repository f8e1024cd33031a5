use Rattle.std.proofs.Common.{arith, refl, false, [], ◌∷◌}
use Rattle.cs_widening.specs.Laws.{table_t}
use Rattle.cs_widening.proofs.laws.widening_can_be.Goals as goal

pub returns : goal.returns
returns c = ((table_t (false ∷ []), (0, omega (arith), refl), refl, omega (arith), omega (arith)), refl)
