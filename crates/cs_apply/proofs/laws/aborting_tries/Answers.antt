use Rattle.std.specs.Fn.{CalledAt}
use Rattle.cs_apply.proofs.Unasked.{aborting_is_applied, aborting_is_refused}
use Rattle.cs_apply.proofs.laws.aborting_tries.Goals as goal

pub returns : goal.returns
returns g c = record {
  applied = aborting_is_applied (CalledAt g.H.FnMut);
  refused = aborting_is_refused (CalledAt g.H.FnMut) c.kind_tells.ensures;
}
