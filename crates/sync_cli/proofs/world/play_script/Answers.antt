use Rattle.sync_cli.proofs.EndingLemmas.{done_so}
use Rattle.sync_cli.proofs.world.play_script.Goals as goal

pub returns-clause-ends : goal.returns-clause-ends
returns-clause-ends g c = (c.run_script-ended.result, c.told_of.ensures, c.run_script-ended.ensures.ends)

pub returns-clause-sent : goal.returns-clause-sent
returns-clause-sent g c = done_so _ c.run_script-ended.result c.told_of.result _ c.told_of.ensures c.run_script-ended.ensures.sent
