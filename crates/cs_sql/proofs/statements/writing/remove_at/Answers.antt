use Rattle.std.proofs.Common.{pos, arith}
use Rattle.sqlite.specs.Held.{state}
use Rattle.cs_sql.proofs.StatementsLemmas.Statements.{removes_inside}
use Rattle.cs_sql.proofs.statements.writing.remove_at.Goals as goal

pub returns-clause-ok : goal.returns-clause-ok
returns-clause-ok g c clean =
    let inside = c.requires (omega (arith, c.execute.ensures.survives.clean)) in
    removes_inside c.args.space (state g.S.Store c.args.tx.now.conn.now) (state g.S.Store c.execute.new.self.conn.now) (pos c.args.table) c.args.key.now c.execute.result inside (rw (c.texts.ensures.remove, c.params-to_sql.ensures, c.params-to_sql-2.ensures) at (c.execute.ensures.runs clean inside.writes))
