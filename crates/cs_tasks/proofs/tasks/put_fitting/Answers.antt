use Rattle.std.proofs.Common.{refl}
use Rattle.cs_tasks.proofs.Groups.{fitting_fault}
use Rattle.cs_tasks.proofs.tasks.put_fitting.Goals as goal

pub returns-clause-fault : goal.returns-clause-fault
returns-clause-fault c = fitting_fault c.put_group.result _ _ _ _ c.in-Some.ensures.place refl c.put_group.ensures.fault
