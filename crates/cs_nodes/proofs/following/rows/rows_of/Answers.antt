use Rattle.cs_nodes.proofs.following.rows.rows_of.Goals as goal

pub returns-in-Ok-clause-listed : goal.returns-in-Ok-clause-listed
returns-in-Ok-clause-listed g c = λ honest view shows def at. (c.in-Ok.ensures.listed honest view shows).there def at
