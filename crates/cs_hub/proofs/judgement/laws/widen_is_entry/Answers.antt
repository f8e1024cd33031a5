use Rattle.cs_hub.specs.judgement.Hub.{synced}
use Rattle.cs_hub.proofs.Entries.{widen_fits}
use Rattle.cs_hub.proofs.judgement.laws.widen_is_entry.Goals as goal

pub returns-clause-entry : goal.returns-clause-entry
returns-clause-entry c old asked of_hub may =
    widen_fits (synced old) (c.catalogs_are_tables.ensures old.opening old.log _ of_hub.tables of_hub.log) c.most_bytes.ensures asked.table asked.width may
