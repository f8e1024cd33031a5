use Rattle.std.proofs.Common.{pos, ◌∙◌}
use Rattle.sqlite.specs.Held.{state}
use Rattle.cs_sql.proofs.StatementsLemmas.Meanings.{select_log_plain}
use Rattle.cs_sql.proofs.StatementsLemmas.Finding.{selects_log, ok_then}
use Rattle.cs_sql.proofs.statements.reading.read_log.Goals as goal

pub query_ready-requires-clause-plain : goal.query_ready-requires-clause-plain
query_ready-requires-clause-plain g c = select_log_plain

pub returns-clause-ok : goal.returns-clause-ok
returns-clause-ok g c clean =
    let it = c.in_ok-rows.ensures.ok clean in
    let found = selects_log (state g.S.Store c.args.conn.now) (state g.S.Store c.query_ready.new.conn) it.1 c.in_ok-rows.rows.items (pos c.args.version) (rw c.params-to_sql.ensures at it.2) in
    ok_then _ _ c.entry_of.result (λ entry is. (it.0, is ∙ (rw c.deref.ensures.value found))) c.entry_of.ensures
