use Rattle.std.proofs.Common.{◌∙◌}
use Rattle.sqlite.specs.Held.{state}
use Rattle.cs_sql.proofs.StatementsLemmas.Meanings.{select_meta_plain}
use Rattle.cs_sql.proofs.StatementsLemmas.Finding.{selects_meta, ok_then}
use Rattle.cs_sql.proofs.statements.reading.read_meta.Goals as goal

pub query_ready-requires-clause-plain : goal.query_ready-requires-clause-plain
query_ready-requires-clause-plain g c = select_meta_plain

pub returns-clause-ok : goal.returns-clause-ok
returns-clause-ok g c clean =
    let it = c.in_ok-rows.ensures.ok clean in
    let found = selects_meta (state g.S.Store c.args.conn.now) (state g.S.Store c.query_ready.new.conn) it.1 c.in_ok-rows.rows.items c.args.name.now (rw c.params-to_sql.ensures at it.2) in
    ok_then _ _ c.body_of.result (λ body is. (it.0, is ∙ (rw c.deref.ensures.value found))) c.body_of.ensures
