use Rattle.std.proofs.Common.{rules}
use Rattle.std.proofs.lemmas.Fn.{always_returns_same}
use Rattle.cs_operations_tests.proofs.choosing.choose_captured.Goals as goal

-- each call leaves the wish that was captured
pub new-chooser-requires-clause-lawful : goal.new-chooser-requires-clause-lawful
new-chooser-requires-clause-lawful c = always_returns_same _ _ _ (λ shown wish g called. search rules)
