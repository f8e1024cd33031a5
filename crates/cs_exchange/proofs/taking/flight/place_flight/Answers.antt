use Rattle.std.proofs.Common.{List, map, ap, sym, ◌∙◌}
use Rattle.cs_exchange.specs.taking.Steps.{task_of}
use Rattle.cs_apply.specs.declared.placement.placed.Placed.{Placed}
use Rattle.cs_exchange.proofs.TakingLemmas.Whole.{none_flown}
use Rattle.cs_exchange.proofs.taking.flight.place_flight.Goals as goal

pub returns-in_default-clause-tasks : goal.returns-in_default-clause-tasks
returns-in_default-clause-tasks c = λ fits.
    ap (λ (ps : List Placed). map task_of ps) c.new.ensures.items ∙ sym (none_flown c.args.catalog.now c.args.flight.now c.in_default.is)
