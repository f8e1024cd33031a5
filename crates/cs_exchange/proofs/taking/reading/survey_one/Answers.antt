use Rattle.std.proofs.Common.{◌∙◌, [], sym}
use Rattle.cs_pending.specs.position.Shows.{base}
use Rattle.cs_exchange.specs.taking.Steps.{task_of}
use Rattle.cs_exchange.proofs.TakingLemmas.Surveyed.{bad_here}
use Rattle.cs_exchange.proofs.taking.reading.survey_one.Goals as goal

pub returns-in_default-clause-surveyed : goal.returns-in_default-clause-surveyed
returns-in_default-clause-surveyed g c = λ honest seen shows on.
    let found = c.in-Ok.ensures.found honest seen shows in
    bad_here (base c.args.flight.now seen) (task_of c.args.placed.now) [] c.in-Ok.found.1 found.1
    (sym (rw (c.as_ref.ensures.value, c.lent-row.ensures) at c.in_ok-theirs.ensures) ∙ c.in_default.is)
