use Rattle.cs_hub.proofs.LogOpeningLemmas.HubLaws.{none_where_opened, one_fault, one_opening, opens_or_fails}
use Rattle.cs_hub.proofs.log_opening.laws.hub_openings.Goals as goal

pub returns : goal.returns
returns c = record {
  one = one_opening;
  fault = one_fault;
  opened = none_where_opened;
  found = opens_or_fails c.first_log_can_be.ensures;
}
