use Rattle.std.specs.Fn.{CalledAt}
use Rattle.cs_operations_tests.proofs.Tries as tries
use Rattle.cs_operations_tests.proofs.trying.try_with.Goals as goal

pub returns : goal.returns
returns g c = record {
  made = λ honest before holds.
      let carried = rw c.in_ok-changeset.ensures.lent at c.apply.ensures.applied in
      tries.made (CalledAt g.H.FnMut) _ _ _ before _ _ c.requires.aborts c.tables-push.ensures.normal c.requires.fits c.aborting_tries.ensures.applied _ (carried honest before holds);
  refused = λ honest before holds.
      let told = rw c.in_ok-changeset.ensures.lent at c.apply.ensures.refused in
      tries.refused (CalledAt g.H.FnMut) _ _ (g.S.RowStore.contents c.args.store.now) before _ _ c.requires.aborts c.tables-push.ensures.normal c.requires.fits c.aborting_tries.ensures.refused _ (told honest before holds);
}
