use Rattle.std.proofs.Common.{List, map, ap, ◌∙◌}
use Rattle.cs_exchange.specs.taking.Steps.{task_of}
use Rattle.cs_apply.specs.declared.placement.placed.Placed.{Placed}
use Rattle.cs_exchange.proofs.TakingLemmas.Whole.{fold_begins, fold_ends}
use Rattle.cs_exchange.proofs.taking.flight.fold_all.Goals as goal

pub returns-in-Ok-clause-folded : goal.returns-in-Ok-clause-folded
returns-in-Ok-clause-folded g c = λ honest seen shows under begun settles.
    let ts = map task_of c.as_slice.result.now in
    let are = ap (λ (ps : List Placed). map task_of ps) c.as_slice.ensures.value ∙ c.in_ok-placed.ensures.tasks under.fits in
    let rest = c.in-Ok.ensures.folded honest seen shows _ begun seen (fold_begins c.args.catalog.now c.args.flight.now seen _ ts are shows under) settles in
    (rest.0, rest.1, fold_ends c.args.catalog.now c.args.flight.now seen _ ts are shows under rest.0 rest.2)
