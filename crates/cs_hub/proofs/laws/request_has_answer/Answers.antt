use Rattle.cs_hub.proofs.Existence.{request_has_answer}
use Rattle.cs_hub.proofs.laws.request_has_answer.Goals as goal

pub returns : goal.returns
returns c =
    request_has_answer (record {
      asks = c.asks_something.ensures;
      pushes = c.push_has_answer.ensures;
      catches = c.catch_has_answer.ensures;
      read = c.changesets.ensures.found;
      decided = c.form_or_unfit.ensures;
      catalogs = c.catalogs_are_tables.ensures;
      next = c.catalog_next.ensures;
      widens = c.widen_answers.ensures.some;
    })
