use Rattle.std.proofs.Common.{refl}
use Rattle.cs_nodes.proofs.FollowingLemmas.Along.{stayed_at}
use Rattle.cs_nodes.proofs.FollowingLemmas.Sent.{nothing_there}
use Rattle.cs_nodes.proofs.following.sending.push_known.Goals as goal

pub returns-then-is_at_rest-clause-pushed : goal.returns-then-is_at_rest-clause-pushed
returns-then-is_at_rest-clause-pushed g c = λ h stands before shows.
    let rest = c.if-is_at_rest.ensures.0 refl in
    (rest.0, nothing_there c.args.replica.now.catalog (g.S.RowStore.contents c.args.replica.now.store) c.args.replica.now.position before shows rest.1, refl, refl, refl, shows, refl)

pub returns-then-is_at_rest-clause-catalog : goal.returns-then-is_at_rest-clause-catalog
returns-then-is_at_rest-clause-catalog g c = stayed_at c.args.replica.now.catalog c.args.replica.now.catalog c.args.pass.now.known c.args.replica.now.position.version c.args.replica.now.position.version refl refl
