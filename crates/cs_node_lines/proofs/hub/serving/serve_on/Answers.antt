use Rattle.cs_node_lines.proofs.HubLemmas.Answered.{all_answered, broken_off}
use Rattle.cs_node_lines.proofs.hub.serving.serve_on.Goals as goal

pub returns-in-Ok-ended-clause-ends : goal.returns-in-Ok-ended-clause-ends
returns-in-Ok-ended-clause-ends g c =
    all_answered _ _ c.runs_by_log.ensures _ _ _ _ (record {
      tables_are = c.in-Ok.ensures.tables;
      was_honest = c.in-Ok.ensures.opens.was_honest;
      opened = c.in-Ok.ensures.opened;
      fresh = c.in-Ok.ensures.fresh;
      shown = c.in-Ok.ensures.shown;
      kept = c.in-Ok.ensures.opens.kept;
    }) c.close-store.ensures _ _ _ c.in-Ok-ended.ensures.served

pub returns-in-Err-ended-clause-ends : goal.returns-in-Err-ended-clause-ends
returns-in-Err-ended-clause-ends g c =
    rw c.from-in-Err-ended.ensures (
    broken_off _ _ c.runs_by_log.ensures _ _ _ _ (record {
      tables_are = c.in-Ok.ensures.tables;
      was_honest = c.in-Ok.ensures.opens.was_honest;
      opened = c.in-Ok.ensures.opened;
      fresh = c.in-Ok.ensures.fresh;
      shown = c.in-Ok.ensures.shown;
      kept = c.in-Ok.ensures.opens.kept;
    }) c.close-store.ensures _ _ _ _ _ _ c.in-Err-ended.stop c.in-Err-ended.ensures.read c.in-Err-ended.ensures.write
    )
