use Rattle.cs_opening.proofs.MovingLemmas.StoreLaws.{none_where_opened, one_fault, one_opening, one_value, opens_or_fails}
use Rattle.cs_opening.proofs.moving.laws.store_openings.Goals as goal

pub returns : goal.returns
returns c = record {
  value = one_value c.one_body.ensures;
  one = one_opening c.one_body.ensures c.openings.ensures.one c.one_position.ensures;
  fault = one_fault c.openings.ensures.fault;
  opened = none_where_opened c.openings.ensures.opened;
  found = opens_or_fails c.openings.ensures.found;
}
