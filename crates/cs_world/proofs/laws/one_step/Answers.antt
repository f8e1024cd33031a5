use Rattle.cs_world.proofs.Coming.{one_step}
use Rattle.cs_world.proofs.laws.one_step.Goals as goal

pub returns : goal.returns
returns c =
    one_step (record {
      service = c.one_service.ensures;
      edited = c.one_edited.ensures;
      pushed = c.one_pushed.ensures;
      resent = c.one_resent.ensures;
      heard = c.one_heard.ensures;
      answer = c.one_told_answer.ensures;
    })
