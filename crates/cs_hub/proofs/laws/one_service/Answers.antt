use Rattle.cs_hub.proofs.OneService.{one_service}
use Rattle.cs_hub.proofs.laws.one_service.Goals as goal

pub returns : goal.returns
returns c =
    one_service c.catalogs_are_tables.ensures (record {
      changesets = c.changesets.ensures;
      form = c.one_normal_form.ensures;
      fit = c.no_fault_where_fit.ensures;
      unfit = c.one_unfit.ensures;
      request = c.one_request.ensures;
      answer = c.one_answer.ensures;
      caught = c.one_catch.ensures;
      widens = c.widen_answers.ensures.one;
    })
