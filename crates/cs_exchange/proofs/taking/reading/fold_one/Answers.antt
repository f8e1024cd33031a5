use Rattle.cs_exchange.proofs.TakingLemmas.Folded.{fold_settled}
use Rattle.cs_exchange.proofs.taking.reading.fold_one.Goals as goal

pub returns-clause-folded : goal.returns-clause-folded
returns-clause-folded g c = λ honest seen shows contents begun view others ready settles.
    let found = c.in-Ok.ensures.found honest seen shows in
    fold_settled c.args.catalog.now c.args.flight.now seen view c.args.placed.now others c.in-Ok.found.0 c.in-Ok.found.1 contents begun c.args.settling.now c.settle_at.new.settling
    (λ base mine stands before. c.in_ok-settle_at.ensures.settled c.args.catalog.now contents begun view c.tables-tables.ensures.tables c.requires base mine stands before)
    found.0 found.1 ready settles
