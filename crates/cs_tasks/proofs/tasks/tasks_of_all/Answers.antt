use Rattle.std.proofs.Common.{refl, ap, length, arith}
use Rattle.std.proofs.lemmas.Result.{err_from_is_err_and}
use Rattle.std.proofs.lemmas.Option.{slice_get_read}
use Rattle.cs_tasks.specs.Tasks.{skipped}
use Rattle.cs_tasks.proofs.Groups.{turn, null_in, null_fault}
use Rattle.cs_tasks.proofs.tasks.tasks_of_all.Goals as goal

pub loop-group-init : goal.loop-group-init
unfolding skipped
loop-group-init c = (c.in_ok-tasks.ensures.0, c.in_ok-tasks.ensures.1, omega (arith, c.in_ok-tasks.ensures.1))

pub returns-in_err-put_fitting-clause-fault : goal.returns-in_err-put_fitting-clause-fault
returns-in_err-put_fitting-clause-fault c =
    let lent = c.as_slice-group-items.ensures in
    let is = rw lent at c.group-item.is in
    let long = ap length lent in
    let p = err_from_is_err_and c.from_residual-in_err-put_fitting.result c.from_residual-in_err-put_fitting.ensures.1 in
    rw (p.1, p.2) (null_fault _ _ _ (null_in c.args.catalog.now c.args.changeset.now c.loop-group.group-index _
    (slice_get_read c.args.changeset.now _ c.loop-group.group-index _ refl (omega (arith, long, c.loop-group-test.true)) is)) c.in_err-put_fitting.ensures.fault)

pub loop-group-preserved : goal.loop-group-preserved
loop-group-preserved c =
    let lent = c.as_slice-group-items.ensures in
    let is = rw lent at c.group-item.is in
    let long = ap length lent in
    turn c.args.catalog.now c.args.changeset.now c.loop-group.group-index _ c.loop-group.tasks c.put_fitting.new.tasks (omega (arith, long, c.loop-group-test.true)) is c.loop-group.invariant c.in_ok-put_fitting.ensures.put c.in_ok-put_fitting.ensures.skipped
