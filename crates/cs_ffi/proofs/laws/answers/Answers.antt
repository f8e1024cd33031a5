use Rattle.cs_ffi.proofs.OneAnswer.{answer_laws, Below}
use Rattle.cs_ffi.proofs.OneRebased.{one_rebased_answer}
use Rattle.cs_ffi.proofs.OneSqlite.{one_sqlite_answer}
use Rattle.cs_ffi.proofs.laws.answers.Goals as goal

pub returns : goal.returns
returns c =
    let below : Below =
    record {
      changesets = c.changesets.ensures;
      fit = c.no_fault_where_fit.ensures;
      unfit = c.one_unfit.ensures;
      form = c.one_normal_form.ensures;
      combined = c.one_combined.ensures;
      no_fault = c.no_fault_where_combined.ensures;
      fault = c.one_combine_fault.ensures;
    } in
    answer_laws below (one_sqlite_answer below c.one_order_or_two.ensures) (one_rebased_answer (record {
      below = below;
      blobs = c.blobs.ensures;
      shapes = c.no_wrong_shape.ensures;
    }))
