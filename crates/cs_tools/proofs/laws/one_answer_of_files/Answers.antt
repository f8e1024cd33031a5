use Rattle.cs_tools.proofs.FaultLaws.{Below}
use Rattle.cs_tools.proofs.FileLaws.{one_combined_fault_of, one_combined_of, one_shown_file, one_shown_file_fault}
use Rattle.cs_tools.proofs.laws.one_answer_of_files.Goals as goal

pub returns : goal.returns
returns g c =
    let laws : Below = record {
      changesets = c.changesets.ensures;
      blobs = c.blobs.ensures;
      combined = c.one_combined.ensures;
      none = c.no_fault_where_combined.ensures;
      one = c.one_combine_fault.ensures;
      shapes = c.no_wrong_shape.ensures;
      orders = c.one_order_or_two.ensures;
    } in
    record {
      shown = one_shown_file laws (record { remaining = g.F.Input.Read.remaining; consumable_len = g.F.Input.BufRead.consumable_len; failed = g.F.Input.PieceInput.failed }) g.F.InputFiles;
      fault = one_shown_file_fault laws (record { remaining = g.F.Input.Read.remaining; consumable_len = g.F.Input.BufRead.consumable_len; failed = g.F.Input.PieceInput.failed }) g.F.InputFiles;
      combined = one_combined_of laws (record { remaining = g.F.Input.Read.remaining; consumable_len = g.F.Input.BufRead.consumable_len; failed = g.F.Input.PieceInput.failed }) g.F.InputFiles;
      combine_fault = one_combined_fault_of laws (record { remaining = g.F.Input.Read.remaining; consumable_len = g.F.Input.BufRead.consumable_len; failed = g.F.Input.PieceInput.failed }) g.F.InputFiles;
    }
