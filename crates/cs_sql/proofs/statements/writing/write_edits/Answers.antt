use Rattle.std.proofs.Common.{arith, ◌∙◌}
use Rattle.sqlite.specs.Held.{state}
use Rattle.cs_sql.specs.statements.Tables.{contents_in}
use Rattle.cs_sql.proofs.StatementsLemmas.Chains.{quiet_then, one_more}
use Rattle.cs_sql.proofs.statements.writing.write_edits.Goals as goal

pub loop-at-preserved : goal.loop-at-preserved
loop-at-preserved g c =
    let first = state g.S.Store c.args.tx.now.conn.now in
    let mid = state g.S.Store c.loop-at.tx.conn.now in
    let last = state g.S.Store c.write_at.new.tx.conn.now in (
      c.write_at.ensures.same_reference ∙ c.loop-at.invariant.0,
      quiet_then first mid last c.loop-at.invariant.1 c.write_at.ensures.survives,
      λ clean. one_more c.args.space first mid last (contents_in first.now.trees) c.args.edits.now c.loop-at.at c.get.result c.get.ensures
          (c.loop-at.invariant.2 (omega (arith, c.write_at.ensures.survives.clean))) (c.in_ok-write_at.ensures.ok clean),
    )
