use Rattle.std.proofs.Common.{◌∙◌, sym}
use Rattle.std.proofs.lemmas.Option.{slice_get_within}
use Rattle.cs_pending.specs.Placing.{standing_found}
use Rattle.cs_pending.proofs.Edited.{put_staged, refused_at, stays_staged}
use Rattle.cs_pending.specs.OnePlace.{contained}
use Rattle.cs_pending.proofs.editing.stage_at.Goals as goal

pub returns-in-Err-left_by-clause-refused : goal.returns-in-Err-left_by-clause-refused
returns-in-Err-left_by-clause-refused g c = λ honest begun view settles.
    refused_at c.args.place.now.table.now c.args.place.now.key.now c.args.wanted.now (standing_found c.in-Ok.before) view c.in-Err-left_by.fault
    (c.in-Ok.ensures.found honest begun view settles) (rw (c.as_ref.ensures.value, c.mine-stood.ensures) at c.in-Err-left_by.ensures.refused)

pub returns-then-are_same-clause-staged : goal.returns-then-are_same-clause-staged
returns-then-are_same-clause-staged g c = λ honest begun view settles.
    let place = c.args.place.now in
    let left = rw (c.as_ref.ensures.value, c.mine-stood.ensures) at c.in-Ok-left_by.ensures.left in
    let same = rw (c.as_ref-2.ensures.value, c.mine-stood.ensures, c.as_ref-3.ensures.value, c.lent-row.ensures) at (sym c.are_same.ensures ∙ c.if-are_same.true) in
    stays_staged c.args.catalog.now c.tables-tables.ensures.tables c.catalogs.ensures.place place.table.now place.key.now (contained c.args.catalog.now place.number place.table.now c.requires.there)
    c.args.wanted.now (standing_found c.in-Ok.before) c.in-Ok-left_by.mine c.requires.wanted left (g.S.RowStore.contents c.args.store.now) begun c.args.settling.now view same
    (c.in-Ok.ensures.found honest begun view settles) settles

pub returns-clause-within : goal.returns-clause-within
returns-clause-within g c = λ within.
    c.in_ok-settle_at.ensures.within c.args.catalog.now (slice_get_within c.args.catalog.now c.args.place.now.number c.args.place.now.table.now c.requires.there) within

pub returns-clause-staged : goal.returns-clause-staged
returns-clause-staged g c = λ honest begun view settles.
    let place = c.args.place.now in
    let left = rw (c.as_ref.ensures.value, c.mine-stood.ensures) at c.in-Ok-left_by.ensures.left in
    let apart = rw (c.as_ref-2.ensures.value, c.mine-stood.ensures, c.as_ref-3.ensures.value, c.lent-row.ensures) at (sym c.are_same.ensures ∙ c.if-are_same.false) in
    put_staged c.args.catalog.now c.tables-tables.ensures.tables c.catalogs.ensures.place place.table.now place.key.now (contained c.args.catalog.now place.number place.table.now c.requires.there)
    c.args.wanted.now (standing_found c.in-Ok.before) c.in-Ok-left_by.mine c.requires.wanted left (g.S.RowStore.contents c.args.store.now) begun c.args.settling.now c.settle_at.new.self view apart
    (c.in-Ok.ensures.found honest begun view settles) settles
    (λ base mine. (rw (c.as_ref-4.ensures.value, c.mine-stood.ensures, c.as_ref-5.ensures.value, c.as_ref-6.ensures.value, c.base-base.ensures, c.as_ref-7.ensures.value, c.lent-row.ensures) at c.in_ok-settle_at.ensures.settled)
    c.args.catalog.now _ begun view c.tables-tables.ensures.tables c.requires.there base mine (c.in-Ok.ensures.found honest begun view settles) settles)
