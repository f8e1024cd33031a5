use Rattle.std.proofs.Common.{arith, ◌∙◌}
use Rattle.sqlite.specs.Held.{state}
use Rattle.cs_sql.specs.statements.Tables.{contents_in}
use Rattle.cs_sql.proofs.StatementsLemmas.Chains.{quiet_then, one_value_more}
use Rattle.cs_sql.proofs.statements.writing.write_values.Goals as goal

pub loop-edit-preserved : goal.loop-edit-preserved
loop-edit-preserved g c =
    let first = state g.S.Store c.args.tx.now.conn.now in
    let mid = state g.S.Store c.loop-edit.tx.conn.now in
    let last = state g.S.Store c.write_value.new.tx.conn.now in (
      c.write_value.ensures.same_reference ∙ c.loop-edit.invariant.0,
      quiet_then first mid last c.loop-edit.invariant.1 c.write_value.ensures.survives,
      λ clean. one_value_more first mid last (contents_in first.now.trees) c.args.edits.now c.loop-edit.edit-index c.edit-item.result c.loop-edit-test.true c.edit-item.is
          (c.loop-edit.invariant.2 (omega (arith, c.write_value.ensures.survives.clean))) (c.in_ok-write_value.ensures.ok clean),
    )
