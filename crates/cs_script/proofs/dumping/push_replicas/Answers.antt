use Rattle.std.proofs.Common.{◌<◌, length, arith}
use Rattle.cs_script.proofs.DumpLemmas.{puts_replicas_more}
use Rattle.cs_script.proofs.dumping.push_replicas.Goals as goal

pub loop-replica-preserved : goal.loop-replica-preserved
loop-replica-preserved c = record {
  stands = λ standing stood. c.in_ok-push_replica.ensures.stands standing (c.loop-replica.invariant.stands standing stood);
  put = λ standing stood same.
      let less : c.loop-replica.replica < length standing.members = omega (arith, stood.0.members_count, c.replicas-replica-end.ensures) in
      puts_replicas_more c.args.catalog.now standing.members c.loop-replica.replica _ _ _ less (c.loop-replica.invariant.put standing stood same)
      (λ member is. c.in_ok-push_replica.ensures.put standing member (c.loop-replica.invariant.stands standing stood) is same);
}
