use Rattle.cs_opening.proofs.Kept as law
use Rattle.cs_opening.proofs.laws.openings_by_kept.Goals as goal

pub returns : goal.returns
returns c = record {
  one = law.one_opened c.tables_kept.ensures.one c.store_openings.ensures.one;
  fault = law.one_refused c.tables_kept.ensures.one c.store_openings.ensures.fault;
  opened = law.none_refused c.tables_kept.ensures.one c.store_openings.ensures.opened;
  found = law.opened_or_refused c.tables_kept.ensures.some c.store_openings.ensures.found;
}
