use Rattle.cs_apply.proofs.Holding.{put_same}
use Rattle.cs_apply.proofs.slots.Slots.put.Goals as goal

pub returns-in-None-clause-ok : goal.returns-in-None-clause-ok
returns-in-None-clause-ok c = λ slot found. rw c.in-None.is (put_same c.args.self.now c.args.number slot found)
