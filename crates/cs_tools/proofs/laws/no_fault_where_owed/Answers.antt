use Rattle.cs_tools.proofs.FaultLaws.{no_fault_where_owed}
use Rattle.cs_tools.proofs.laws.no_fault_where_owed.Goals as goal

pub returns : goal.returns
returns c =
    no_fault_where_owed record {
      changesets = c.changesets.ensures;
      blobs = c.blobs.ensures;
      combined = c.one_combined.ensures;
      none = c.no_fault_where_combined.ensures;
      one = c.one_combine_fault.ensures;
      shapes = c.no_wrong_shape.ensures;
      orders = c.one_order_or_two.ensures;
    }
