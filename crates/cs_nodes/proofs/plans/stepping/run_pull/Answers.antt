use Rattle.std.proofs.Common.{Ok, Err, ◌∙◌}
use Rattle.cs_nodes.proofs.PlansLemmas.Turned.{pull_outcome, pull_quiet, pull_turns, stays_quiet}
use Rattle.cs_nodes.proofs.plans.stepping.run_pull.Goals as goal

pub returns-in-Ok : goal.returns-in-Ok
returns-in-Ok c =
    let stood = c.stands.ensures.stands tt in
    pull_turns c.args.node.now c.pull-pulled.new.self c.args.wishes.now c.new-picker.result c.pull-pulled.new.picker (Ok c.in-Ok.count) c.stepped.result c.in-Ok.ensures.catalog c.stands.ensures.within c.in-Ok.ensures.spine c.in-Ok.ensures.begins
    (record { outcome_is = c.stepped.ensures.outcome; known_is = c.stepped.ensures.known; version_is = c.stepped.ensures.version; made_is = c.stepped.ensures.made })
    (c.new-picker.ensures ∙ c.as_slice.ensures) (c.in-Ok.ensures.pulled tt) (stood.0, stood.1)
    (stays_quiet c.args.node.now c.pull-pulled.new.self _ (pull_outcome (Ok c.in-Ok.count)) c.in-Ok.ensures.writes.as_read c.in-Ok.ensures.writes.cause (pull_quiet (Ok c.in-Ok.count)))

pub returns-in-Err : goal.returns-in-Err
returns-in-Err c =
    let stood = c.stands.ensures.stands tt in
    pull_turns c.args.node.now c.pull-pulled.new.self c.args.wishes.now c.new-picker.result c.pull-pulled.new.picker (Err c.in-Err.fault) c.stepped-in-Err.result c.in-Err.ensures.catalog c.stands.ensures.within c.in-Err.ensures.spine c.in-Err.ensures.begins
    (record { outcome_is = c.stepped-in-Err.ensures.outcome; known_is = c.stepped-in-Err.ensures.known; version_is = c.stepped-in-Err.ensures.version; made_is = c.stepped-in-Err.ensures.made })
    (c.new-picker.ensures ∙ c.as_slice.ensures) (c.in-Err.ensures.pulled tt) (stood.0, stood.1)
    (stays_quiet c.args.node.now c.pull-pulled.new.self _ (pull_outcome (Err c.in-Err.fault)) c.in-Err.ensures.writes.as_read c.in-Err.ensures.writes.cause (pull_quiet (Err c.in-Err.fault)))
