use Rattle.cs_nodes.proofs.node.Node.edit.Goals as goal

pub returns-clause-writes : goal.returns-clause-writes
returns-clause-writes g c = rw (← c.self.view_is) c.edit_row.ensures.writes
