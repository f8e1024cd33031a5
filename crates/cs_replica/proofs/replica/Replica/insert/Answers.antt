use Rattle.cs_replica.proofs.replica.Replica.insert.Goals as goal

pub returns-clause-writes : goal.returns-clause-writes
returns-clause-writes g c = rw (← c.self.view_is) c.edit_at.ensures.writes
