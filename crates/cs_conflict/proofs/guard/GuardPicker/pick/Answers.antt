use Rattle.std.proofs.Common.{refl, subst}
use Rattle.std.specs.Fn.{Called}
use Rattle.cs_conflict.proofs.Picking.{guarded_is_lawful}
use Rattle.cs_conflict.proofs.guard.GuardPicker.pick.Goals as goal

pub returns-clause-lawful : goal.returns-clause-lawful
returns-clause-lawful g c = rw c.guarded.ensures (guarded_is_lawful c.call_mut-asked.result c.args.clash.now)

pub returns-clause-picked : goal.returns-clause-picked
returns-clause-picked g c =
    let called = subst (λ f. Called g.F.FnMut f (c.args.clash, tt) c.call_mut-asked.result c.call_mut-asked.new.self) c.self.view_is c.call_mut-asked.ensures in
    (c.call_mut-asked.result, record { shown = c.args.clash; shows = refl; called = called }, c.guarded.ensures)
