use Rattle.std.proofs.Common.{◌≡◌, arith, pos, to_z, of_z, to_z-of_z, w64, rules}
use Rattle.sqlite.specs.Held.{state}
use Rattle.cs_sql.proofs.StatementsLemmas.Statements.{inserts_log_inside, first_of, second_of}
use Rattle.cs_sql.proofs.statements.writing.insert_log.Goals as goal

pub returns-clause-ok : goal.returns-clause-ok
returns-clause-ok g c clean =
    let inside = c.requires (omega (arith, c.execute.ensures.survives.clean)) in
    let back : to_z w64 (of_z w64 c.signed-number.result) ≡ c.signed-number.result = to_z-of_z {w = w64} {z = c.signed-number.result} (search rules) in
    let runs = rw back at (rw (c.params-to_sql.ensures, c.params-to_sql-2.ensures, c.params-to_sql-3.ensures, c.params-to_sql-4.ensures) at (c.execute.ensures.runs clean inside.writes)) in
    let both = inserts_log_inside (state g.S.Store c.args.tx.now.conn.now) (state g.S.Store c.execute.new.self.conn.now) (pos c.args.version) (pos c.args.entry.now.origin) c.signed-number.result c.args.entry.now.body.items c.execute.result inside runs in
    rw c.signed-number.ensures at (first_of _ _ c.execute.result both)

pub returns-clause-free : goal.returns-clause-free
returns-clause-free g c clean =
    let inside = c.requires (omega (arith, c.execute.ensures.survives.clean)) in
    let back : to_z w64 (of_z w64 c.signed-number.result) ≡ c.signed-number.result = to_z-of_z {w = w64} {z = c.signed-number.result} (search rules) in
    let runs = rw back at (rw (c.params-to_sql.ensures, c.params-to_sql-2.ensures, c.params-to_sql-3.ensures, c.params-to_sql-4.ensures) at (c.execute.ensures.runs clean inside.writes)) in
    let both = inserts_log_inside (state g.S.Store c.args.tx.now.conn.now) (state g.S.Store c.execute.new.self.conn.now) (pos c.args.version) (pos c.args.entry.now.origin) c.signed-number.result c.args.entry.now.body.items c.execute.result inside runs in
    second_of _ _ c.execute.result both
