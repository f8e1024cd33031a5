use Rattle.std.proofs.Common.{Err, ap}
use Rattle.cs_pending.specs.declared.fault.EditFault.{EditFault}
use Rattle.cs_nodes.specs.declared.plans.plan.StepOutcome.TheVariants.{Edited, NotEdited}
use Rattle.cs_nodes.proofs.PlansLemmas.Turned.{edit_made, edit_refused, made_quiet, refused_quiet, stays_quiet}
use Rattle.cs_nodes.proofs.plans.stepping.run_edit.Goals as goal

pub returns-in-Ok : goal.returns-in-Ok
returns-in-Ok c =
    let stood = c.stands.ensures.stands tt in
    edit_made c.args.node.now c.edit-edited.new.self c.args.edit.now c.stepped.result c.in-Ok.ensures.catalog c.in-Ok.ensures.pass
    (record { outcome_is = c.stepped.ensures.outcome; known_is = c.stepped.ensures.known; version_is = c.stepped.ensures.version; made_is = c.stepped.ensures.made })
    (c.in-Ok.ensures.writes.ok tt) c.in-Ok.ensures.moved (stood.0, stood.1)
    (stays_quiet c.args.node.now c.edit-edited.new.self _ Edited c.in-Ok.ensures.writes.as_read c.in-Ok.ensures.writes.cause (λ never. made_quiet))

pub returns-in-Err : goal.returns-in-Err
returns-in-Err c =
    edit_refused c.args.node.now c.edit-edited.new.self c.args.edit.now c.in-Err.fault c.stepped-in-Err.result c.in-Err.ensures.catalog c.in-Err.ensures.pass
    (record { outcome_is = c.stepped-in-Err.ensures.outcome; known_is = c.stepped-in-Err.ensures.known; version_is = c.stepped-in-Err.ensures.version; made_is = c.stepped-in-Err.ensures.made })
    (c.in-Err.ensures.writes.err tt) c.in-Err.ensures.kept (c.in-Err.ensures.refused tt)
    (stays_quiet c.args.node.now c.edit-edited.new.self _ (NotEdited c.in-Err.fault) c.in-Err.ensures.writes.as_read c.in-Err.ensures.writes.cause
    (λ never. refused_quiet c.in-Err.fault (λ is. never (ap (λ (f : EditFault). Err f) is))))
