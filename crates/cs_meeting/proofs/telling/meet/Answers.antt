use Rattle.std.proofs.Common.{inr, refl}
use Rattle.cs_node_lines.specs.hub.Endings.{IsOpenedOver}
use Rattle.cs_meeting.specs.Ends.{IsReplicaOver}
use Rattle.cs_meeting.proofs.Ended.{ends_meeting}
use Rattle.cs_meeting.proofs.Told.{keeps_itself}
use Rattle.cs_meeting.proofs.telling.meet.Goals as goal

pub returns-in-Err-open-clause-ends : goal.returns-in-Err-open-clause-ends
returns-in-Err-open-clause-ends g c =
    inr (inr (
      c.in-Err-open.fault,
      c.in-Ok.hub,
      refl,
      record {
        tables_are = c.in-Ok.ensures.tables;
        was_honest = c.in-Ok.ensures.opens.was_honest;
        opened = c.in-Ok.ensures.opened;
        fresh = c.in-Ok.ensures.fresh;
        shown = c.in-Ok.ensures.shown;
        kept = c.in-Ok.ensures.opens.kept;
      },
      c.close.ensures,
      record {
        was_honest = c.in-Err-open.ensures.opens.was_honest;
        later = c.in-Err-open.ensures.opens.later;
        same = c.in-Err-open.ensures.kept;
        refused = c.in-Err-open.ensures.refused;
        cause = λ is. c.in-Err-open.ensures.opens.cause (rw is refl);
      },
      keeps_itself (g.W.Write.contents c.args.writer.now),
    ))

pub returns-clause-ends : goal.returns-clause-ends
returns-clause-ends g c =
    let hub_opened : IsOpenedOver g.S.RowStore c.args.catalog.now c.args.hub_store c.in-Ok.hub = record {
      tables_are = c.in-Ok.ensures.tables;
      was_honest = c.in-Ok.ensures.opens.was_honest;
      opened = c.in-Ok.ensures.opened;
      fresh = c.in-Ok.ensures.fresh;
      shown = c.in-Ok.ensures.shown;
      kept = c.in-Ok.ensures.opens.kept;
    } in
    let replica_opened : IsReplicaOver g.S.RowStore c.args.catalog.now c.args.id c.args.store c.in-Ok-open.replica = record {
      tables_are = c.in-Ok-open.ensures.of.0;
      id_is = c.in-Ok-open.ensures.of.1;
      was_honest = c.in-Ok-open.ensures.opens.was_honest;
      is_opened = c.in-Ok-open.ensures.opened;
    } in
    ends_meeting g.S.RowStore c.args.catalog.now c.args.id c.args.wish c.args.hub_store c.close-2.result c.args.store c.close-3.result (g.W.LineOutput.failed c.told_meeting-ended.new.writer)
    (g.W.Write.contents c.args.writer.now) (g.W.Write.contents c.told_meeting-ended.new.writer) c.told_meeting-ended.result (record { hub = c.in-Ok.hub; replica = c.in-Ok-open.replica }) c.told_meeting-ended.new.self
    hub_opened replica_opened (rw (← c.meeting.view_is) c.close-2.ensures) (rw (← c.meeting.view_is) c.close-3.ensures) c.told_meeting-ended.ensures.told
