use Rattle.std.proofs.Common.{pos, arith}
use Rattle.sqlite.specs.Held.{state}
use Rattle.cs_sql.proofs.StatementsLemmas.Statements.{inserts_inside}
use Rattle.cs_sql.proofs.statements.writing.insert_at.Goals as goal

pub returns-clause-ok : goal.returns-clause-ok
returns-clause-ok g c clean =
    let inside = c.requires.inside (omega (arith, c.execute.ensures.survives.clean)) in
    inserts_inside c.args.space (state g.S.Store c.args.tx.now.conn.now) (state g.S.Store c.execute.new.self.conn.now) (pos c.args.table) c.args.key.now c.args.body.now c.execute.result inside
    (c.requires.absent (omega (arith, c.execute.ensures.survives.clean))) (rw (c.texts.ensures.insert, c.params-to_sql.ensures, c.params-to_sql-2.ensures, c.params-to_sql-3.ensures) at (c.execute.ensures.runs clean inside.writes))
