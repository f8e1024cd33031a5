use Rattle.std.proofs.Common.{pos, ◌∙◌}
use Rattle.sqlite.specs.Held.{state}
use Rattle.cs_sql.proofs.StatementsLemmas.Meanings.{select_plain}
use Rattle.cs_sql.proofs.StatementsLemmas.Finding.{selects_at, ok_then}
use Rattle.cs_sql.proofs.statements.reading.read_at.Goals as goal

pub query_ready-requires-clause-plain : goal.query_ready-requires-clause-plain
query_ready-requires-clause-plain g c = rw c.texts.ensures.select (select_plain c.args.space)

pub returns-clause-ok : goal.returns-clause-ok
returns-clause-ok g c clean =
    let it = c.in_ok-rows.ensures.ok clean in
    let found = selects_at (state g.S.Store c.args.conn.now) (state g.S.Store c.query_ready.new.conn) it.1 c.in_ok-rows.rows.items c.args.space (pos c.args.table) c.args.key.now (rw (c.texts.ensures.select, c.params-to_sql.ensures, c.params-to_sql-2.ensures) at it.2) in
    ok_then _ _ c.body_of.result (λ body is. (it.0, is ∙ (rw c.deref.ensures.value found))) c.body_of.ensures
