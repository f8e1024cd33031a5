use Rattle.cs_sql.proofs.store.SqlStore.leaves_store.Goals as goal

pub returns : goal.returns
returns g c = rw (← c.self.view_is) c.self.invariant.left
