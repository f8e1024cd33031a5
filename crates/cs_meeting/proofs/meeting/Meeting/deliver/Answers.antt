use Rattle.std.proofs.Common.{◌≡◌, List, ℕ, arith, codes, refl, rules, subst, sym}
use Rattle.cs_hub.specs.Calls.{AnswersHub}
use Rattle.cs_node_lines.specs.working.Texts.{refused_text}
use Rattle.cs_store.specs.declared.log.entry.TheConstants.{MAX_ENTRIES}
use Rattle.cs_wire.specs.Requests.{asked_by_owned, request_spelling}
use Rattle.cs_meeting.proofs.Delivering.{goes_served, goes_unasked, goes_unserved}
use Rattle.cs_meeting.proofs.meeting.Meeting.deliver.Goals as goal

pub returns-then-is_err-clause-delivers : goal.returns-then-is_err-clause-delivers
returns-then-is_err-clause-delivers g c = (
  refused_text (codes "Memory"),
  refl,
  goes_unasked g.S.RowStore c.steps_are_sound.ensures (omega (arith, c.most_entries.ensures)) c.args.self.now (asked_by_owned c.args.request.now) c.args.wishes.now (refused_text (codes "Memory")) refl,
)

pub returns-in_default-clause-delivers : goal.returns-in_default-clause-delivers
returns-in_default-clause-delivers g c = (
  refused_text (codes "Memory"),
  refl,
  rw (← c.self.view_is) (goes_unserved g.S.RowStore c.steps_are_sound.ensures (omega (arith, c.most_entries.ensures)) c.self.inside.hub c.serve.new.self c.self.inside.replica
      (asked_by_owned c.args.request.now) c.args.wishes.now (refused_text (codes "Memory")) refl (rw c.in_default.is at c.serve.ensures.refused)),
)

pub returns-clause-delivers : goal.returns-clause-delivers
returns-clause-delivers g c =
    let spelled : c.encode.new.out.items ≡ request_spelling (asked_by_owned c.args.request.now) = search rules in
    let answered : AnswersHub g.S.RowStore MAX_ENTRIES c.self.inside.hub c.encode.new.out.items c.in-Ok.answer.items c.serve.new.self =
    rw (c.in-Ok.is, c.as_slice.ensures.value) at c.serve.ensures.served in
    let heard : AnswersHub g.S.RowStore MAX_ENTRIES c.self.inside.hub c.encode.new.out.items c.as_slice-2.result.now c.serve.new.self =
    subst (λ (b : List ℕ). AnswersHub g.S.RowStore MAX_ENTRIES c.self.inside.hub c.encode.new.out.items b c.serve.new.self) (sym c.as_slice-2.ensures.value) answered in
    let made = c.seen_line.ensures in (
      made.0,
      made.2,
      rw (← c.self.view_is) (goes_served g.S.RowStore c.steps_are_sound.ensures (omega (arith, c.most_entries.ensures)) c.answers_fit.ensures c.seen_is_heard.ensures c.one_told_answer.ensures c.args.catalog.now
          c.self.inside.hub c.serve.new.self c.self.inside.replica c.seen_line.new.replica (asked_by_owned c.args.request.now) c.args.wishes.now c.encode.new.out.items c.as_slice-2.result.now made.0 (rw (← c.self.view_is) at c.requires.catalog) spelled heard made.1),
    )
