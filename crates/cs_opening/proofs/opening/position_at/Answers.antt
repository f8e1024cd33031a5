use Rattle.std.proofs.Common.{Some, subst, sym}
use Rattle.cs_pending.specs.position.Shows.{flown}
use Rattle.cs_store.specs.Contents.{Contents}
use Rattle.cs_pending.specs.Settled.{Catalogs}
use Rattle.cs_opening.specs.Steps.{IsJudged, IsSound}
use Rattle.cs_opening.proofs.Opened.{carried_fits, none_said, none_sound, stands_at}
use Rattle.cs_opening.proofs.opening.position_at.Goals as goal

pub returns-in-Ok-None-clause-told : goal.returns-in-Ok-None-clause-told
returns-in-Ok-None-clause-told g c = λ honest of.
    let law : Catalogs c.args.catalog.now = record { are = c.tables-tables.ensures.tables; one = c.catalogs.ensures.place; key = c.one_key_stands.ensures; net_takes = c.net_takes.ensures } in
    none_said c.args.catalog.now law c.set_columns_fit.ensures c.args.id c.ranges.id.fits (g.S.RowStore.contents c.args.store.now) ((rw c.in-Ok-None.field-0-is at c.in-Ok-None.ensures.only) honest)

pub returns-in-Ok-Some-count_sound-clause-told : goal.returns-in-Ok-Some-count_sound-clause-told
returns-in-Ok-Some-count_sound-clause-told g c = λ honest of.
    let law : Catalogs c.args.catalog.now = record { are = c.tables-tables.ensures.tables; one = c.catalogs.ensures.place; key = c.one_key_stands.ensures; net_takes = c.net_takes.ensures } in
    let was = c.in-Ok-Some-count_sound.ensures.reads.was_honest honest in
    let old = g.S.RowStore.contents c.args.store.now in
    let said = c.in-Ok-Some.said in
    let says = (rw c.in-Ok-Some.field-0-is at c.in-Ok-Some.ensures.found) was in
    let fits = carried_fits c.args.catalog.now c.args.id old said says in
    let told = subst (λ (left : Contents). IsJudged c.args.catalog.now left (flown said.flight) (Some c.in-Ok-Some-count_sound.pending)) (c.in-Ok-Some.ensures.reads.same was)
    ((rw c.in-Ok-Some-count_sound.field-0-is at c.in-Ok-Some-count_sound.ensures.told) honest fits) in
    stands_at c.args.catalog.now law c.set_columns_fit.ensures c.args.id old of said says told.0 c.in-Ok-Some-count_sound.pending told.1 c.ranges.id.fits c.in_range.ensures

pub returns-in-Ok-None-count_sound-clause-told : goal.returns-in-Ok-None-count_sound-clause-told
returns-in-Ok-None-count_sound-clause-told g c = λ honest of.
    let law : Catalogs c.args.catalog.now = record { are = c.tables-tables.ensures.tables; one = c.catalogs.ensures.place; key = c.one_key_stands.ensures; net_takes = c.net_takes.ensures } in
    let was = c.in-Ok-None-count_sound.ensures.reads.was_honest honest in
    let old = g.S.RowStore.contents c.args.store.now in
    let said = c.in-Ok-Some.said in
    let says = (rw c.in-Ok-Some.field-0-is at c.in-Ok-Some.ensures.found) was in
    let fits = carried_fits c.args.catalog.now c.args.id old said says in
    let never = (rw c.in-Ok-None-count_sound.field-0-is at c.in-Ok-None-count_sound.ensures.told) honest fits in
    none_sound c.args.catalog.now law c.set_columns_fit.ensures c.args.id c.ranges.id.fits old said ((rw c.in-Ok-Some.field-0-is at c.in-Ok-Some.ensures.only) was)
    (λ sound. never (subst (λ (left : Contents). IsSound c.args.catalog.now left (flown said.flight)) (sym (c.in-Ok-Some.ensures.reads.same was)) sound))
