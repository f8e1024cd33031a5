use Rattle.cs_sql.proofs.Whole.{closed_shows}
use Rattle.cs_sql.proofs.store.SqlStore.close.Goals as goal

pub returns-clause-shows : goal.returns-clause-shows
returns-clause-shows g c clean opened = rw (← c.self.view_is) (closed_shows g.A.Store _ _ _ c.self.invariant c.schema.ensures.live clean opened)
