use Rattle.std.proofs.Common.{◌&&◌, Bool, not, Ok, Err, ap, ◌∙◌}
use Rattle.std.specs.Prelude.{is_some}
use Rattle.cs_nodes.proofs.PlansLemmas.Turned.{push_outcome, push_quiet, push_turns, stays_quiet}
use Rattle.cs_nodes.proofs.plans.stepping.run_push.Goals as goal

pub returns-in-Ok : goal.returns-in-Ok
returns-in-Ok c =
    let stood = c.stands.ensures.stands tt in
    push_turns c.args.node.now c.push-pushed.new.self c.args.spine.now c.args.wishes.now c.new-picker.result c.push-pushed.new.picker c.is_under_way-was_under_way.result (is_some c.push-pushed.new.self.replica.position.flight)
    (Ok c.in-Ok.told) c.stepped.result c.in-Ok.ensures.catalog c.stands.ensures.within c.in-Ok.ensures.spine c.requires c.in-Ok.ensures.begins
    (record {
      outcome_is = c.stepped.ensures.outcome;
      known_is = c.stepped.ensures.known;
      version_is = c.stepped.ensures.version;
      made_is = c.stepped.ensures.made ∙ c.is_made-made.ensures ∙ ap (λ (b : Bool). not c.is_under_way-was_under_way.result && b) c.has_taken.ensures;
    })
    (c.new-picker.ensures ∙ c.as_slice.ensures) c.is_under_way-was_under_way.ensures ((λ h. h), (λ h. h)) (c.in-Ok.ensures.pushed tt) (λ rest. (c.in-Ok.ensures.nothing rest).0) (λ apart less. (c.in-Ok.ensures.behind apart less).0)
    (stood.0, stood.1)
    (stays_quiet c.args.node.now c.push-pushed.new.self _ (push_outcome (Ok c.in-Ok.told)) c.in-Ok.ensures.writes.as_read c.in-Ok.ensures.writes.cause (push_quiet (Ok c.in-Ok.told)))

pub returns-in-Err : goal.returns-in-Err
returns-in-Err c =
    let stood = c.stands.ensures.stands tt in
    push_turns c.args.node.now c.push-pushed.new.self c.args.spine.now c.args.wishes.now c.new-picker.result c.push-pushed.new.picker c.is_under_way-was_under_way.result c.is_under_way.result
    (Err c.in-Err.fault) c.stepped-in-Err.result c.in-Err.ensures.catalog c.stands.ensures.within c.in-Err.ensures.spine c.requires c.in-Err.ensures.begins
    (record {
      outcome_is = c.stepped-in-Err.ensures.outcome;
      known_is = c.stepped-in-Err.ensures.known;
      version_is = c.stepped-in-Err.ensures.version;
      made_is = c.stepped-in-Err.ensures.made ∙ c.is_made-made-in-Err.ensures;
    })
    (c.new-picker.ensures ∙ c.as_slice.ensures) c.is_under_way-was_under_way.ensures c.is_under_way.ensures (c.in-Err.ensures.pushed tt) (λ rest. (c.in-Err.ensures.nothing rest).0)
    (λ apart less. (c.in-Err.ensures.behind apart less).0) (stood.0, stood.1)
    (stays_quiet c.args.node.now c.push-pushed.new.self _ (push_outcome (Err c.in-Err.fault)) c.in-Err.ensures.writes.as_read c.in-Err.ensures.writes.cause (push_quiet (Err c.in-Err.fault)))
