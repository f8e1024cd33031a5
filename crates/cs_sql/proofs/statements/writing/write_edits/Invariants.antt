use Rattle.std.proofs.Common.{◌≡◌, take}
use Rattle.sqlite.specs.Held.{state}
use Rattle.sqlite.specs.State.{HasCleanDisk, Survives}
use Rattle.cs_sql.specs.statements.Tables.{contents_in}
use Rattle.cs_sql.specs.statements.Steps.{Edits, with_edits}
use Rattle.cs_sql.proofs.statements.writing.write_edits.Given as goal

abbrev pub invariant-loop-at : goal.invariant-loop-at
invariant-loop-at g l =
    (l.tx.conn.ghost_name ≡ l.fn.tx.conn.ghost_name)
    × Survives (state g.S.Store l.fn.tx.conn.now) (state g.S.Store l.tx.conn.now) (λ _. ⊥)
    × (HasCleanDisk (state g.S.Store l.tx.conn.now)
    → Edits (with_edits l.space (take l.at l.edits) (contents_in (state g.S.Store l.fn.tx.conn.now).now.trees)) (state g.S.Store l.fn.tx.conn.now) (state g.S.Store l.tx.conn.now))
