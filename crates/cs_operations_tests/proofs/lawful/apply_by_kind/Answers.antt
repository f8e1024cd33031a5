use Rattle.std.proofs.Common.{ap, ◌∙◌}
use Rattle.cs_conflict.specs.declared.conflict.Conflict.{Conflict}
use Rattle.cs_operations_tests.specs.Answers.{by_kind}
use Rattle.cs_operations_tests.proofs.Allowed.{by_kind_lawful}
use Rattle.cs_operations_tests.proofs.lawful.apply_by_kind.Goals as goal

pub apply_lawfully-requires-clause-lawful : goal.apply_lawfully-requires-clause-lawful
apply_lawfully-requires-clause-lawful g c = λ base mine applied.
    by_kind_lawful _ _ base mine applied _ (λ f h conflict answer called. called.called.met ∙ ap (λ (x : Conflict). by_kind x.kind) called.shows) _
