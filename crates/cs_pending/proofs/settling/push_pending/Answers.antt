use Rattle.std.proofs.Common.{◌∙◌}
use Rattle.cs_pending.specs.Steps.{one_of, pushed_as}
use Rattle.cs_pending.proofs.settling.push_pending.Goals as goal

pub returns-in-Ok-clause-pushed : goal.returns-in-Ok-clause-pushed
returns-in-Ok-clause-pushed c =
    pushed_as _ c.args.place.now.number c.args.place.now.key.now _ _ _ _ (one_of c.args.was c.is_some-is.result c.else-not-was.either) (c.lent_body.ensures ∙ c.in_ok-body.ensures) c.in-Ok.ensures
