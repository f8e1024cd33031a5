use Rattle.cs_tools.proofs.TextLaws.{nothing_rebased}
use Rattle.cs_tools.proofs.laws.nothing_rebased_of_two_orders.Goals as goal

pub returns : goal.returns
returns c = nothing_rebased c.one_order_or_two.ensures c.changesets.ensures.one c.blobs.ensures.one
