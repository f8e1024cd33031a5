use Rattle.cs_hub.proofs.LogStoreLemmas.Appended.{append_shows}
use Rattle.cs_hub.proofs.log_store.laws.append_shows.Goals as goal

pub returns : goal.returns
returns c = append_shows c.appended_is_log.ensures c.log_states.ensures c.longer_log.ensures c.catalog_next.ensures c.entry_leads.ensures c.commits.ensures.rows c.commits.ensures.log c.commits.ensures.count c.commits.ensures.other_rows
