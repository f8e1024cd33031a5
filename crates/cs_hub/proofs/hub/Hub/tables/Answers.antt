use Rattle.cs_hub.proofs.hub.Hub.tables.Goals as goal

pub returns-clause-tables : goal.returns-clause-tables
returns-clause-tables g c = rw (← c.self.view_is) (rw c.opening.ensures at c.tables.ensures.tables)
