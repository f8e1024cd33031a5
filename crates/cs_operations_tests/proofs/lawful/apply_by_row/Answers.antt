use Rattle.std.proofs.Common.{ap, ◌∙◌}
use Rattle.cs_conflict.specs.declared.conflict.Conflict.{Conflict}
use Rattle.cs_operations_tests.specs.Answers.{by_row}
use Rattle.cs_operations_tests.proofs.Allowed.{by_row_lawful}
use Rattle.cs_operations_tests.proofs.lawful.apply_by_row.Goals as goal

pub apply_lawfully-requires-clause-lawful : goal.apply_lawfully-requires-clause-lawful
apply_lawfully-requires-clause-lawful g c = λ base mine applied.
    by_row_lawful _ _ base mine applied _ (λ f h conflict answer called. called.called.met ∙ ap (λ (x : Conflict). by_row x.row) called.shows) _
