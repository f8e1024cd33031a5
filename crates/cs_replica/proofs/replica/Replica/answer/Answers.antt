use Rattle.cs_replica.specs.Answered.{IsAnsweredNext}
use Rattle.cs_replica.proofs.Stepped.{heard, shown_by, turns_leave}
use Rattle.cs_replica.proofs.replica.Replica.answer.Goals as goal

pub invariant_of-self : goal.invariant_of-self
invariant_of-self g c = λ honest.
    let was = c.self.invariant (c.answer_at-told.ensures.writes.was_honest honest) in
    shown_by g.P.Picker.picks c.self.inside.catalog c.args.answer.now c.answer_at-told.result c.self.inside.position was.0 c.args.picker.now c.answer_at-told.new.catalog c.answer_at-told.new.position (g.S.RowStore.contents c.answer_at-told.new.store) c.answer_at-told.new.picker
    (c.answer_at-told.ensures.told honest was.0 was.1)

pub returns-clause-turned : goal.returns-clause-turned
returns-clause-turned g c =
    rw (← c.self.view_is)
    (heard g.S.RowStore c.self.inside.catalog c.answer_at-told.new.catalog c.self.inside.store c.answer_at-told.new.store c.self.inside.position c.answer_at-told.new.position c.shown.ensures.shown c.shown.ensures.fits
    g.P.Picker.picks c.args.answer.now c.args.picker.now c.answer_at-told.new.picker c.answer_at-told.result c.answer_at-told.ensures.told c.answer_at-told.ensures.writes.was_honest)

pub returns-clause-left : goal.returns-clause-left
returns-clause-left g c =
    rw (← c.self.view_is)
    (turns_leave g.S.RowStore c.self.inside.catalog c.answer_at-told.new.catalog c.self.inside.store c.answer_at-told.new.store c.self.inside.position c.answer_at-told.new.position c.shown.ensures.shown c.shown.ensures.fits
    g.P.Picker.picks c.args.answer.now c.args.picker.now c.answer_at-told.new.picker c.answer_at-told.result c.answer_at-told.ensures.told
    c.one_position.ensures (IsAnsweredNext g.P.Picker.picks c.answer_at-told.new.catalog c.args.answer.now) _ _ _ _ c.answer_at-told.ensures.writes)

pub returns-clause-counts : goal.returns-clause-counts
returns-clause-counts g c = rw (← c.self.view_is) (record { later = c.answer_at-told.ensures.writes.later; cause = c.answer_at-told.ensures.writes.cause })
