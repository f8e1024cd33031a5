use Rattle.std.proofs.Common.{arith}
use Rattle.sqlite.specs.Held.{state}
use Rattle.cs_sql.proofs.StatementsLemmas.Statements.{removes_meta_inside}
use Rattle.cs_sql.proofs.statements.writing.remove_meta.Goals as goal

pub returns-clause-ok : goal.returns-clause-ok
returns-clause-ok g c clean =
    let inside = c.requires (omega (arith, c.execute.ensures.survives.clean)) in
    removes_meta_inside (state g.S.Store c.args.tx.now.conn.now) (state g.S.Store c.execute.new.self.conn.now) c.args.name.now c.execute.result inside (rw c.params-to_sql.ensures at (c.execute.ensures.runs clean inside.writes))
