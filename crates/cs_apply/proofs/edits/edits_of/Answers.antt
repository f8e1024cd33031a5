use Rattle.std.proofs.Common.{◌≤◌, ◌<◌, length, get_or, sym, ◌∙◌, arith}
use Rattle.cs_apply.proofs.Meshing.{mesh_is, next_rises, none_put, one_put, all_kept}
use Rattle.cs_apply.proofs.edits.edits_of.Goals as goal
use Rattle.cs_apply.proofs.edits.edits_of.Goals.{in-Some+in_ok-set, in_default}

pub move_edits-kept-requires-clause-within : goal.move_edits-kept-requires-clause-within
move_edits-kept-requires-clause-within c =
    let here =
    next_rises c.args.stand_ins.now c.args.made c.loop-number.number c.loop-number.from
    (omega (arith, c.loop-number-test.true)) c.loop-number.invariant.rising in
    omega (arith, here.1, c.loop-number.invariant.as_many)

pub set-requires : goal.set-requires
set-requires c =
    let here =
    next_rises c.args.stand_ins.now c.args.made c.loop-number.number c.loop-number.from
    (omega (arith, c.loop-number-test.true)) c.loop-number.invariant.rising in
    let moved = c.move_edits-kept.ensures in
    omega (arith, here.1, moved.next, moved.as_many, c.loop-number.invariant.few, c.loop-number.invariant.as_many)

pub overflow_add-kept : goal.overflow_add-kept
overflow_add-kept c =
    let here =
    next_rises c.args.stand_ins.now c.args.made c.loop-number.number c.loop-number.from
    (omega (arith, c.loop-number-test.true)) c.loop-number.invariant.rising in
    omega (arith, here.1, c.move_edits-kept.ensures.next, c.loop-number.invariant.few, c.len-end.ensures)

pub overflow_add-from : goal.overflow_add-from
overflow_add-from c =
    let here =
    next_rises c.args.stand_ins.now c.args.made c.loop-number.number c.loop-number.from
    (omega (arith, c.loop-number-test.true)) c.loop-number.invariant.rising in
    omega (arith, here.1, c.len-end.ensures)

pub loop-number-preserved : goal.loop-number-preserved
loop-number-preserved c =
    let stand_ins = c.args.stand_ins.now in
    let made = c.args.made in
    let slots = c.args.slots.now in
    let number = c.loop-number.number in
    let from = c.loop-number.from in
    let edits = c.loop-number.edits in
    let kept = c.loop-number.kept in
    let before = c.loop-number.invariant in
    let new = c.move_edits-kept.new.edits in
    let next = c.move_edits-kept.result in
    let moved = c.move_edits-kept.ensures in
    let slot = c.get.result in
    let less : number < length stand_ins = omega (arith, c.loop-number-test.true) in
    let one_slot : number < length slots = omega (arith, less, c.requires.as_many) in
    let here = next_rises stand_ins made number from less before.rising in
    let few : next ≤ get_or stand_ins number 0 = omega (arith, moved.next, before.few) in
    elim c.match-edit_of.branch [
      | in-Some+in_ok-set w ↦
          let is = sym c.edit_of.ensures ∙ w.in-Some.is in
          let put =
          one_put stand_ins made number from less before.rising edits new kept next before.few before.as_many before.behind
          moved.next moved.moved moved.behind moved.as_many slots slot one_slot c.get.ensures
          w.in-Some.edit w.set.new.self is w.in_ok-set.ensures.ok in
          rw (w.edits-is, w.kept-is) (record {
            few = omega (arith, few);
            as_many = put.0;
            rising = here.2;
            behind = put.1;
            same = put.2 ∙ before.same;
          })
      | in_default w ↦
          let put =
          none_put stand_ins made number from less before.rising edits new kept next before.few before.as_many before.behind
          moved.next moved.moved moved.behind moved.as_many slots slot one_slot c.get.ensures (sym w.in_default.ensures) in
          rw (w.edits-is, w.kept-is) (record {
            few = omega (arith, few);
            as_many = moved.as_many ∙ before.as_many;
            rising = here.2;
            behind = put.0;
            same = put.1 ∙ before.same;
          })
    ]

pub returns : goal.returns
returns c = λ held made stand_ins count.
    let before = c.loop-number.invariant in
    let moved = c.move_edits-kept-2.ensures in
    let done =
    c.truncate.ensures ∙ (moved.moved
    ∙ (all_kept c.args.stand_ins.now c.args.made c.loop-number.edits c.args.slots.now
    c.loop-number.number c.loop-number.from c.loop-number.kept c.len-end.result
    (omega (arith, c.loop-number-test.false)) c.len-end.ensures before.as_many before.behind ∙ before.same)) in
    rw (made, stand_ins) at done ∙ mesh_is held c.args.slots.now count
