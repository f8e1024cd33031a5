use Rattle.cs_tools.proofs.FoundLaws.{text_or_fault}
use Rattle.cs_tools.proofs.laws.text_or_fault.Goals as goal

pub returns : goal.returns
returns c =
    text_or_fault record {
      lines = c.lines_taken.ensures.next;
      changesets = c.changesets.ensures.found;
      blobs = c.blobs.ensures.found;
      combined = c.combined_or_fault.ensures;
      once = c.each_once_or_not.ensures;
      shapes = c.shapes_or_wrong.ensures;
      orders = c.some_order.ensures;
    }
