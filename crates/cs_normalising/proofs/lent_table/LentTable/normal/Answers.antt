use Rattle.cs_normalising.proofs.lent_table.LentTable.normal.Goals as goal

pub returns : goal.returns
returns c = rw (← c.self.view_is) (rw c.as_slice.ensures at c.normal_at.ensures)
