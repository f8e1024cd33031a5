use Rattle.sqlite.specs.Held.{state}
use Rattle.cs_sql.proofs.Whole.{over_steady, settled_leaves}
use Rattle.cs_sql.proofs.store.SqlStore.over.Goals as goal

pub returns-clause-opens : goal.returns-clause-opens
returns-clause-opens g c clean =
    settled_leaves (state g.A.Store c.args.conn) c.args.log (c.requires.open clean) c.schema.ensures.live (c.requires.ready clean) (c.requires.log clean) (λ db left. g.met.A.Store.settled c.args.conn.store db (c.requires.open clean) left)

pub invariant_of-result : goal.invariant_of-result
invariant_of-result g c = rw c.of-last.ensures (over_steady g.A.Store c.args.conn c.args.log c.requires.idle c.requires.ready c.requires.log (λ clean.
    settled_leaves (state g.A.Store c.args.conn) c.args.log (c.requires.open clean) c.schema.ensures.live (c.requires.ready clean) (c.requires.log clean) (λ db left. g.met.A.Store.settled c.args.conn.store db (c.requires.open clean) left)))
