use Rattle.std.proofs.Common.{inl}
use Rattle.sync_cli.proofs.EndingLemmas.{done_so}
use Rattle.sync_cli.proofs.node.follow_file.Goals as goal

pub returns-clause-ends : goal.returns-clause-ends
returns-clause-ends g c =
    inl (c.in-Ok.store, c.follow_on-ended.result.1, c.close.ensures.kept c.args.path.now c.in-Ok.store c.in-Ok.ensures.gave, c.close.ensures.took, (c.follow_on-ended.result.0, c.told_of.ensures, c.follow_on-ended.ensures.ends))

pub returns-clause-sent : goal.returns-clause-sent
returns-clause-sent g c = done_so _ c.follow_on-ended.result.0 c.told_of.result _ c.told_of.ensures c.follow_on-ended.ensures.sent
