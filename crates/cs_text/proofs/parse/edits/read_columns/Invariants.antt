-- The key and the fields so far are what the words up to those that are left spell.
use Rattle.std.proofs.Common.{◌≡◌, List, ◌++◌, length}
use Rattle.std.specs.Prelude.{option_map}
use Rattle.cs_value.specs.declared.value.Field.{Field}
use Rattle.cs_value.specs.declared.value.Value.{Value}
use Rattle.cs_text.specs.parse.Edits.{columns_in}
use Rattle.cs_text.proofs.parse.edits.read_columns.Given as goal

abbrev pub invariant-loop-word : goal.invariant-loop-word
invariant-loop-word l =
    columns_in l.fn.marks l.fn.words ≡ option_map {U = List Value × List Field} (λ more. (l.key.items ++ more.0, l.fields.items ++ more.1)) (columns_in l.marks l.words)

abbrev pub decreases-loop-word : goal.decreases-loop-word
decreases-loop-word l = length l.words
