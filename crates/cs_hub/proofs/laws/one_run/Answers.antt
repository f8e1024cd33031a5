use Rattle.cs_store.specs.declared.log.entry.TheConstants.{MAX_ENTRIES}
use Rattle.cs_hub.proofs.OneHubRun.{one_hub_run}
use Rattle.cs_hub.proofs.laws.one_run.Goals as goal

pub returns : goal.returns
returns c = one_hub_run c.appended_is_log.ensures c.widens_keep_log.ensures.log c.empty_is_log.ensures c.one_service.ensures MAX_ENTRIES
