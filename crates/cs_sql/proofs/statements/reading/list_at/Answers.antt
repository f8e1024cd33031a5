use Rattle.std.proofs.Common.{pos, subst, sym}
use Rattle.std.specs.FinMap.{get}
use Rattle.sqlite.specs.Held.{state}
use Rattle.cs_store.specs.Contents.{IsListing}
use Rattle.cs_sql.specs.statements.Tables.{contents_in}
use Rattle.cs_sql.specs.statements.Steps.{placed}
use Rattle.cs_sql.proofs.StatementsLemmas.Meanings.{list_plain}
use Rattle.cs_sql.proofs.StatementsLemmas.Finding.{ok_then}
use Rattle.cs_sql.proofs.StatementsLemmas.Listed.{lists_at}
use Rattle.cs_sql.proofs.statements.reading.list_at.Goals as goal

pub query_ready-requires-clause-plain : goal.query_ready-requires-clause-plain
query_ready-requires-clause-plain g c = rw c.texts.ensures.list (list_plain c.args.space)

pub returns-clause-ok : goal.returns-clause-ok
returns-clause-ok g c clean =
    let it = c.in_ok-rows.ensures.ok clean in
    let start = state g.S.Store c.args.conn.now in
    let found = lists_at start (state g.S.Store c.query_ready.new.conn) it.1 c.in_ok-rows.rows.items (pos c.args.table) c.args.space (rw (c.texts.ensures.list, c.params-to_sql.ensures) at it.2) in
    ok_then _ _ c.pairs_in.result (λ pairs is. (it.0, subst (IsListing (λ key. get (placed c.args.space (contents_in start.now.trees)) (pos c.args.table, key))) (sym is) (rw c.deref.ensures.value found))) c.pairs_in.ensures
