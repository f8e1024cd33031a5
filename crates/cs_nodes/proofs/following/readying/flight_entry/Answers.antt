use Rattle.cs_nodes.proofs.FollowingLemmas.Stood.{flight_defined}
use Rattle.cs_nodes.proofs.following.readying.flight_entry.Goals as goal

pub returns-clause-defined : goal.returns-clause-defined
returns-clause-defined g c = λ known stands h.
    let s = stands h in
    flight_defined c.flight_fits.ensures c.defined_is_applied.ensures c.catalogs_are_tables.ensures c.args.replica.now.catalog (g.S.RowStore.contents c.args.replica.now.store) known c.args.replica.now.position s.0 s.1 s.2
    c.flight_entry.result c.flight_entry.ensures
