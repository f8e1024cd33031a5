use Rattle.std.proofs.Common.{rules}
use Rattle.std.proofs.lemmas.List.Sorted.{answers_always}
use Rattle.cs_replica_tests.proofs.choosing.take_own_first.Goals as goal

-- each answer is lawful, however often the closure was asked
pub new-chooser-requires-clause-lawful : goal.new-chooser-requires-clause-lawful
new-chooser-requires-clause-lawful c made = answers_always _ _ _ (λ f shown wish g called. search rules)
