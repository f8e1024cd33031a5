use Rattle.cs_world.proofs.Exists.{deliver_has_step}
use Rattle.cs_world.proofs.laws.deliver_has_step.Goals as goal

pub returns : goal.returns
returns c =
    deliver_has_step (record {
      fits = c.answers_fit.ensures;
      lawful = c.guarded_is_lawful.ensures;
      push = c.push_has_answer.ensures;
      taken = c.normal_is_taken.ensures;
      again = c.normal_again.ensures;
      answer = c.answer_has_result_by.ensures;
      catch = c.catch_has_answer.ensures;
      widen = c.widen_answers.ensures.some;
      catalogs = c.catalogs_are_tables.ensures;
      next = c.catalog_next.ensures;
    })
