use Rattle.std.proofs.Common.{of_calls, refl, subst}
use Rattle.std.specs.Fn.{Called}
use Rattle.cs_conflict.proofs.Picking.{after_call}
use Rattle.cs_conflict.proofs.chooser.ChooserPicker.pick.Goals as goal

pub returns : goal.returns
returns g c =
    let called = subst (λ f. Called g.F.FnMut f (c.args.clash, tt) c.call_mut.result c.call_mut.new.self) c.self.view_is c.call_mut.ensures in
    let next = after_call g.F.FnMut _ c.requires.1 called in
    record {
      ready = (search of_calls, next.1);
      lawful = next.0;
      picked = record { shown = c.args.clash; shows = refl; called = called };
    }
