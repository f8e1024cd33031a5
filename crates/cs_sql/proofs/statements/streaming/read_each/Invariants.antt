use Rattle.std.proofs.Common.{◌≡◌, false}
use Rattle.sqlite.specs.State.{Survives}
use Rattle.sqlite.specs.Held.{state}
use Rattle.sqlite.specs.Values.{bound}
use Rattle.cs_sql.proofs.StatementsLemmas.Streams.{IsUnderWay}
use Rattle.cs_sql.proofs.statements.streaming.read_each.Given as goal

abbrev pub invariant-rows : goal.invariant-rows
invariant-rows g l =
    (l.rows.conn.ghost_name ≡ l.initial.rows.conn.ghost_name)
    × (l.fn.conn.in_transaction ≡ false → l.rows.conn.now.in_transaction ≡ false)
    × Survives (state g.S.Store l.fn.conn) (state g.S.Store l.rows.conn.now) (λ _. ⊥)
    × IsUnderWay g.S.Store g.R.Reader.has_read l.sql (bound l.params) (state g.S.Store l.fn.conn) l.fn.reader l.rows.conn.now l.reader
