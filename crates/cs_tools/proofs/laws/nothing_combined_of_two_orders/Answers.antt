use Rattle.cs_tools.proofs.TextLaws.{nothing_combined}
use Rattle.cs_tools.proofs.laws.nothing_combined_of_two_orders.Goals as goal

pub returns : goal.returns
returns c = nothing_combined c.one_order_or_two.ensures c.changesets.ensures.one
