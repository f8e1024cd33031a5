use Rattle.std.proofs.Common.{rules, length, ◌≡◌, ◌≤◌, ◌-◌, drop, take_all, arith, length-drop}
use Rattle.cs_lines.proofs.WriteLemmas.{written_none, written_more, written_kept, written_front, written_all}
use Rattle.cs_lines.proofs.streams.write_whole.Goals as goal
use Rattle.cs_lines.proofs.streams.write_whole.Goals.{in-Ok, in-Err+in-Interrupted}

pub loop-init : goal.loop-init
loop-init g c = written_none _ _

pub returns-then-is_empty-clause-written : goal.returns-then-is_empty-clause-written
returns-then-is_empty-clause-written g c =
    let none : length c.loop.rest.now ≡ 0 = search rules in written_all _ _ _ _ c.loop.invariant none

pub returns-in-Ok-eq0-clause-front : goal.returns-in-Ok-eq0-clause-front
returns-in-Ok-eq0-clause-front g c =
    written_front _ _ _ _ (written_more _ _ _ _ _ _ c.loop.invariant c.in-Ok-eq0.ensures.bytes)

pub returns-in_default-clause-front : goal.returns-in_default-clause-front
returns-in_default-clause-front g c =
    written_front _ _ _ _ (written_kept _ _ _ _ _ c.loop.invariant c.in-Err.ensures.bytes)

pub loop-preserved : goal.loop-preserved
loop-preserved g c =
    elim c.match-write.branch [
      | in-Ok w ↦
          let within : w.in-Ok.count ≤ length c.loop.rest.now = w.in-Ok.ensures.bound in
          rw (
            w.rest-is,
            take_all (length c.loop.rest.now - w.in-Ok.count) (drop w.in-Ok.count c.loop.rest.now)
                (omega (arith, length-drop w.in-Ok.count c.loop.rest.now)),
          )
          (written_more _ _ _ _ _ _ c.loop.invariant w.in-Ok.ensures.bytes)
      | in-Err+in-Interrupted w ↦ rw w.rest-is (written_kept _ _ _ _ _ c.loop.invariant w.in-Err.ensures.bytes)
    ]

pub returns-clause-front : goal.returns-clause-front
returns-clause-front g c = written_front _ _ _ _ c.loop.invariant
