use Rattle.cs_node_lines.proofs.working.working.in_order.Goals as goal

pub returns : goal.returns
returns g c = rw c.catalog.ensures at c.tables-tables.ensures.tables
