use Rattle.cs_exchange.proofs.PushingLemmas.Pushed.{none_where_made, one_fault}
use Rattle.cs_exchange.proofs.pushing.laws.one_push.Goals as goal

pub returns-clause-one : goal.returns-clause-one
returns-clause-one c = λ tables position before some other changes others are s o. c.one_pending.ensures tables before.pending changes others are s.pending o.pending

pub returns-clause-fault : goal.returns-clause-fault
returns-clause-fault c = one_fault

pub returns-clause-made : goal.returns-clause-made
returns-clause-made c = none_where_made c.one_pending.ensures
