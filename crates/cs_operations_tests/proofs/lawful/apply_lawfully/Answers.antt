use Rattle.std.specs.Fn.{CalledAt}
use Rattle.cs_operations_tests.proofs.Closing.{closes}
use Rattle.cs_operations_tests.proofs.lawful.apply_lawfully.Goals as goal

pub returns : goal.returns
returns g c = record {
  closes = λ honest.
      let carried = rw c.in_ok-changeset.ensures.lent at c.apply.ensures.applied in
      closes (CalledAt g.H.FnMut) _ _ _ _ _ _ c.tables-tables.ensures.tables c.tables-local.ensures.normal c.tables-remote.ensures.normal c.requires.fits c.lawful_are_given.ensures c.diamond_of_tables.ensures c.requires.lawful _ (carried honest);
}
