use Rattle.std.proofs.Common.{rules}
use Rattle.std.proofs.lemmas.List.Sorted.{answers_always}
use Rattle.cs_operations_tests.proofs.choosing.choose_in_turn.Goals as goal

-- each answer is lawful, whatever the closure remembers
pub new-chooser-requires-clause-lawful : goal.new-chooser-requires-clause-lawful
new-chooser-requires-clause-lawful c = answers_always _ _ _ (λ f shown wish g called. search rules)
