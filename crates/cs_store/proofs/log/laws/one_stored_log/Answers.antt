use Rattle.cs_store.proofs.LogLemmas.StoredLogs.{one_stored_log}
use Rattle.cs_store.proofs.log.laws.one_stored_log.Goals as goal

pub returns : goal.returns
returns c = one_stored_log c.one_body.ensures c.catalogs_are_tables.ensures
