use Rattle.cs_nodes.proofs.node.Node.pull.Goals as goal

pub returns-clause-writes : goal.returns-clause-writes
returns-clause-writes g c = rw (← c.self.view_is) c.pull_known.ensures.writes
