-- The bytes so far are what the text up to `rest` spells.
use Rattle.std.proofs.Common.{◌≡◌, ℕ, List, ◌++◌, length}
use Rattle.std.specs.Prelude.{option_map}
use Rattle.cs_text.specs.parse.Texts.{unescaped}
use Rattle.cs_text.proofs.parse.texts.unescape.Given as goal

abbrev pub invariant-loop-rest : goal.invariant-loop-rest
invariant-loop-rest l = unescaped l.fn.text ≡ option_map {U = List ℕ} (λ more. l.bytes.items ++ more) (unescaped l.rest)

abbrev pub decreases-loop-rest : goal.decreases-loop-rest
decreases-loop-rest l = length l.rest
