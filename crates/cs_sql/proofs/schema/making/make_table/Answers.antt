use Rattle.std.proofs.Common.{arith}
use Rattle.sqlite.specs.Held.{state}
use Rattle.cs_sql.proofs.SchemaLemmas.Laying.{adds}
use Rattle.cs_sql.proofs.SchemaLemmas.Refusing.{making_caused}
use Rattle.cs_sql.proofs.schema.making.make_table.Goals as goal

pub returns-clause-ok : goal.returns-clause-ok
returns-clause-ok g c clean =
    let was = c.requires (omega (arith, c.execute.ensures.survives.clean)) in
    adds c.args.part (state g.S.Store c.args.tx.now.conn.now) (state g.S.Store c.execute.new.self.conn.now) c.execute.result was (rw c.create.ensures at (c.execute.ensures.runs clean was.writes))

pub returns-clause-cause : goal.returns-clause-cause
returns-clause-cause g c clean =
    let was = c.requires (omega (arith, c.execute.ensures.survives.clean)) in
    making_caused c.args.part (state g.S.Store c.args.tx.now.conn.now) (state g.S.Store c.execute.new.self.conn.now) c.execute.result was (rw c.create.ensures at (c.execute.ensures.runs clean was.writes))
