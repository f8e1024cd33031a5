use Rattle.cs_store.proofs.LogLemmas.Bodies.{one_body}
use Rattle.cs_store.proofs.log.laws.one_body.Goals as goal

pub returns : goal.returns
returns c = one_body c.changesets.ensures c.normal_is_taken.ensures c.normal_again.ensures c.one_normal_form.ensures
