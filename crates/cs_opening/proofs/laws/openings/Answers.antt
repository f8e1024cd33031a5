use Rattle.cs_opening.proofs.OpenLaws.{first_can_be, none_where_opened, one_fault, one_opening, opens_or_fails, some_where_shown}
use Rattle.cs_opening.proofs.laws.openings.Goals as goal

pub returns : goal.returns
returns c = record {
  one = one_opening c.one_position.ensures;
  fault = one_fault;
  opened = none_where_opened;
  found = opens_or_fails;
  some = some_where_shown;
  first = first_can_be;
}
