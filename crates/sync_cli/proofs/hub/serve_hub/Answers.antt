use Rattle.std.proofs.Common.{ap}
use Rattle.cs_map_store.specs.Slots.{held_by, misreads_of}
use Rattle.sync_cli.proofs.EndingLemmas.{done_so}
use Rattle.sync_cli.proofs.HubLemmas.{in_memory}
use Rattle.sync_cli.proofs.hub.serve_hub.Goals as goal

pub returns-clause-ends : goal.returns-clause-ends
returns-clause-ends g c =
    rw c.told_in_memory.ensures (in_memory _ _ c.serve_on-ended.result.1 _
    (ap held_by c.new.ensures) (ap misreads_of c.new.ensures) c.serve_on-ended.result.0 c.serve_on-ended.ensures.ends)

pub returns-clause-sent : goal.returns-clause-sent
returns-clause-sent g c = done_so _ c.serve_on-ended.result.0 c.told_in_memory.result _ c.told_in_memory.ensures c.serve_on-ended.ensures.sent
