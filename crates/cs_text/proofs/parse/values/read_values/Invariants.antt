-- The values so far are what the words up to those that are left spell.
use Rattle.std.proofs.Common.{◌≡◌, List, ◌++◌, length}
use Rattle.std.specs.Prelude.{option_map}
use Rattle.cs_value.specs.declared.value.Value.{Value}
use Rattle.cs_text.specs.parse.Values.{values_in}
use Rattle.cs_text.proofs.parse.values.read_values.Given as goal

abbrev pub invariant-loop-word : goal.invariant-loop-word
invariant-loop-word l = values_in l.fn.words ≡ option_map {U = List Value} (λ more. l.values.items ++ more) (values_in l.words)

abbrev pub decreases-loop-word : goal.decreases-loop-word
decreases-loop-word l = length l.words
