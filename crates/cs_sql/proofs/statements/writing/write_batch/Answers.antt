use Rattle.std.proofs.Common.{pos, arith}
use Rattle.sqlite.specs.Held.{state}
use Rattle.cs_store.specs.Written.{optional_entry}
use Rattle.cs_sql.specs.statements.Tables.{contents_in}
use Rattle.cs_sql.specs.statements.Steps.{with_edits, with_values, with_log}
use Rattle.cs_sql.specs.declared.statements.spaces.Space.TheVariants.{Rows, Pending}
use Rattle.cs_sql.proofs.StatementsLemmas.Chains.{then_edits, then_ok}
use Rattle.cs_sql.proofs.statements.writing.write_batch.Goals as goal

pub returns-clause-ok : goal.returns-clause-ok
returns-clause-ok g c clean =
    let start = state g.S.Store c.args.tx.now.conn.now in
    let one = state g.S.Store c.write_edits.new.tx.conn.now in
    let two = state g.S.Store c.write_edits-2.new.tx.conn.now in
    let three = state g.S.Store c.write_values.new.tx.conn.now in
    let end = state g.S.Store c.write_log.new.tx.conn.now in
    let was = contents_in start.now.trees in
    let batch = c.args.batch.now in
    let third = c.in_ok-write_values.ensures.ok (omega (arith, c.write_log.ensures.survives.clean)) in
    let second = c.in_ok-write_edits-2.ensures.ok (omega (arith, c.write_log.ensures.survives.clean, c.write_values.ensures.survives.clean)) in
    let first = c.in_ok-write_edits.ensures.ok (omega (arith, c.write_log.ensures.survives.clean, c.write_values.ensures.survives.clean, c.write_edits-2.ensures.survives.clean)) in
    let rows = with_edits Rows batch.rows was in
    let changes = with_edits Pending batch.pending rows in
    let both = then_edits start one two rows (with_edits Pending batch.pending) (rw c.lend.ensures at first) (rw c.lend-2.ensures at second) in
    let all = then_edits start two three changes (with_values batch.meta.items) both (rw c.deref.ensures.value at third) in
    then_ok c.write_log.result start three end (with_values batch.meta.items changes) (with_log (pos c.args.version) (optional_entry batch.log)) all (c.write_log.ensures.ok clean)
