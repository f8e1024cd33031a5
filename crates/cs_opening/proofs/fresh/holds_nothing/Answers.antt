use Rattle.std.proofs.Common.{refl, sym, ◌∙◌}
use Rattle.cs_opening.proofs.Nothing.{has_entries, has_none, is_nothing, isnt_nothing}
use Rattle.cs_opening.proofs.fresh.holds_nothing.Goals as goal

pub returns-in-Ok-false-clause-nothing : goal.returns-in-Ok-false-clause-nothing
returns-in-Ok-false-clause-nothing g c = λ honest.
    let told = (rw c.in-Ok-false.field-0-test at c.in-Ok-false.ensures.found) honest in
    isnt_nothing _ (λ is. (let no = told.1 (has_none _ is) in cc))

pub returns-then-entries-ne0-clause-nothing : goal.returns-then-entries-ne0-clause-nothing
returns-then-entries-ne0-clause-nothing g c = λ honest.
    let named = c.in-Ok.ensures.reads.was_honest honest in
    isnt_nothing _ (λ is. has_entries (g.S.RowStore.contents c.have_none.new.store) _ (c.in-Ok.ensures.counted honest) c.if-entries-ne0.true (c.in-Ok-true.ensures.reads.same named ∙ is))

pub returns-in-Ok-check-clause-nothing : goal.returns-in-Ok-check-clause-nothing
returns-in-Ok-check-clause-nothing g c = λ honest.
    let counted = c.in-Ok-check.ensures.reads.was_honest honest in
    let named = c.in-Ok.ensures.reads.was_honest counted in
    is_nothing _ c.no_tables.ensures (g.S.RowStore.contents c.args.store.now) (g.S.RowStore.contents c.have_none.new.store) (g.S.RowStore.contents c.log_len.new.self) c.in-Ok-check.bare
    (c.in-Ok-true.ensures.reads.same named) (c.in-Ok.ensures.reads.same counted)
    (((rw c.in-Ok-true.field-0-test at c.in-Ok-true.ensures.found) named).0 refl)
    (sym (c.in-Ok.ensures.counted counted) ∙ c.if-entries-ne0.false)
    (c.in-Ok-check.ensures.checked honest)
