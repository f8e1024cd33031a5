use Rattle.std.proofs.Common.{◌≡◌, List, sym, subst, ◌∙◌}
use Rattle.cs_store.specs.Contents.{Contents}
use Rattle.cs_store.specs.States.{AreEdits, Holds}
use Rattle.cs_store.specs.edits.Edits.{BodyEdit}
use Rattle.cs_store.specs.declared.fault.StoreFault.TheVariants as stored
use Rattle.cs_pending.specs.Settling.{AreWithin}
use Rattle.cs_pending.specs.Storing.{reads_well, then_reads_failed, then_well, went_well}
use Rattle.cs_pending.specs.position.Shows.{ShowsSomeAt}
use Rattle.cs_pending.specs.Shows.{Pends}
use Rattle.cs_pending.specs.Steps.{settles_none}
use Rattle.cs_widening.specs.Widening.{widened, widened_tables}
use Rattle.cs_padding.specs.Pending.{MakesPending, pending_after, widened_pending}
use Rattle.cs_exchange.proofs.TakingLemmas.Widened.{makes_folded, wide_settling}
use Rattle.cs_exchange.proofs.taking.widening.gather_wider.Goals as goal

pub returns-clause-settled : goal.returns-clause-settled
returns-clause-settled g c = λ honest seen shows.
    let contents = g.S.RowStore.contents c.args.store.now in
    let tables = c.args.catalog.now in
    let name = c.args.name.now in
    let width = c.args.width in
    let position = c.args.position.now in
    let begun = c.new-settling.result in
    let settling = c.fold_all.new.settling in
    let listed = c.in-Ok-widen_pending_with.ensures.reads.was_honest honest in
    let folded_there = c.in-Ok-widen_rows.ensures.reads.was_honest listed in
    let first : g.S.RowStore.contents c.fold_all.new.store ≡ contents = c.in-Ok.ensures.reads.same folded_there in
    let second : g.S.RowStore.contents c.widen_rows.new.store ≡ contents = c.in-Ok-widen_rows.ensures.reads.same listed ∙ first in
    let none = settles_none tables contents position.pending begun seen c.new-settling.ensures.rows c.new-settling.ensures.pending c.new-settling.ensures.count shows.rows in
    let folded = c.in-Ok.ensures.folded folded_there seen shows.rows shows.under_way position.pending none in
    let within = c.in-Ok.ensures.within
    (subst (λ (es : List BodyEdit). AreWithin tables es) (sym c.new-settling.ensures.rows) tt, subst (λ (es : List BodyEdit). AreWithin tables es) (sym c.new-settling.ensures.pending) tt) in
    let edits = subst (λ (cs : Contents). Holds tables cs seen.tables → AreEdits (widened_tables name width tables) cs c.in-Ok-widen_rows.rows (widened name width seen.tables)) first
    (c.in-Ok-widen_rows.ensures.widened listed seen.tables) shows.rows.rows in
    let makes = makes_folded c.sound_widens.ensures tables position name width contents seen c.tables-tables.ensures.tables c.requires folded.0 settling folded.2 within folded.1 in
    let pads = subst (λ (cs : Contents). Pends tables cs seen.pending → MakesPending tables cs settling.pending folded.0.pending
    → MakesPending (widened_tables name width tables) cs c.in-Ok-widen_pending_with.pending (widened_pending name width folded.0.pending) × (pending_after cs c.in-Ok-widen_pending_with.pending ≡ pending_after cs settling.pending)) second
    (c.in-Ok-widen_pending_with.ensures.widened honest seen.pending folded.0.pending) shows.rows.pends makes in
    wide_settling c.sound_widens.ensures tables position name width contents seen c.tables-tables.ensures.tables c.requires folded.0 settling folded.2 within folded.1
    c.in-Ok-widen_rows.rows c.in-Ok-widen_pending_with.pending edits pads.0 pads.1

pub returns-clause-reads : goal.returns-clause-reads
returns-clause-reads g c =
    let readable = ShowsSomeAt c.args.catalog.now c.args.position.now (g.S.RowStore.contents c.args.store.now) in
    let folded = went_well g.S.RowStore stored.Device _ c.args.store.now c.fold_all.new.store c.in-Ok.field-0 c.in-Ok.ensures.reads in
    let listed = then_well g.S.RowStore _ _ readable c.args.store.now c.fold_all.new.store c.widen_rows.new.store (λ some. (some.0, some.1.rows)) (λ honest some. tt) folded
    (went_well g.S.RowStore stored.Device _ c.fold_all.new.store c.widen_rows.new.store c.in-Ok-widen_rows.rows c.in-Ok-widen_rows.ensures.reads) in
    reads_well g.S.RowStore stored.Device readable c.args.store.now c.widen_pending_with.new.store _
    (then_well g.S.RowStore readable _ readable c.args.store.now c.widen_rows.new.store c.widen_pending_with.new.store (λ some. some)
    (λ honest some. (some.0.pending, subst (λ (cs : Contents). Pends c.args.catalog.now cs some.0.pending) (sym (listed.same honest)) some.1.rows.pends))
    listed (went_well g.S.RowStore stored.Device _ c.widen_rows.new.store c.widen_pending_with.new.store c.in-Ok-widen_pending_with.pending c.in-Ok-widen_pending_with.ensures.reads))

pub returns-in-Err-widen_pending_with-clause-reads : goal.returns-in-Err-widen_pending_with-clause-reads
returns-in-Err-widen_pending_with-clause-reads g c =
    let readable = ShowsSomeAt c.args.catalog.now c.args.position.now (g.S.RowStore.contents c.args.store.now) in
    let folded = went_well g.S.RowStore stored.Device _ c.args.store.now c.fold_all.new.store c.in-Ok.field-0 c.in-Ok.ensures.reads in
    let listed = then_well g.S.RowStore _ _ readable c.args.store.now c.fold_all.new.store c.widen_rows.new.store (λ some. (some.0, some.1.rows)) (λ honest some. tt) folded
    (went_well g.S.RowStore stored.Device _ c.fold_all.new.store c.widen_rows.new.store c.in-Ok-widen_rows.rows c.in-Ok-widen_rows.ensures.reads) in
    then_reads_failed g.S.RowStore stored.Device c.in-Err-widen_pending_with.fault readable _ readable c.args.store.now c.widen_rows.new.store c.widen_pending_with.new.store (λ some. some)
    (λ honest some. (some.0.pending, subst (λ (cs : Contents). Pends c.args.catalog.now cs some.0.pending) (sym (listed.same honest)) some.1.rows.pends))
    listed c.in-Err-widen_pending_with.ensures.reads
