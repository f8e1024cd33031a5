-- The bytes so far are what the text up to `rest` spells.
use Rattle.std.proofs.Common.{◌≡◌, ℕ, List, ◌++◌, length}
use Rattle.std.specs.Prelude.{option_map}
use Rattle.cs_text.specs.parse.Texts.{bytes_in}
use Rattle.cs_text.proofs.parse.texts.read_bytes.Given as goal

abbrev pub invariant-loop-rest : goal.invariant-loop-rest
invariant-loop-rest l = bytes_in l.fn.word ≡ option_map {U = List ℕ} (λ more. l.bytes.items ++ more) (bytes_in l.rest)

abbrev pub decreases-loop-rest : goal.decreases-loop-rest
decreases-loop-rest l = length l.rest
