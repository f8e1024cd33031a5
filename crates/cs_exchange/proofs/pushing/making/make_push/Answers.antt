use Rattle.cs_exchange.proofs.PushingLemmas.Pushed.{early_fault, late_fault}
use Rattle.cs_exchange.proofs.pushing.making.make_push.Goals as goal

pub returns-in-Err-clause-refused : goal.returns-in-Err-clause-refused
returns-in-Err-clause-refused g c = λ honest view shows.
    early_fault c.args.catalog.now _ c.args.position.now view shows c.in-Err.fault c.in-Err.ensures

pub returns-in-Err-store_push-clause-refused : goal.returns-in-Err-store_push-clause-refused
returns-in-Err-store_push-clause-refused g c = λ honest view shows.
    late_fault c.args.catalog.now _ c.args.position.now view shows c.in-Ok.ensures c.in-Err-store_push.fault (c.in-Err-store_push.ensures.refused honest view shows)
