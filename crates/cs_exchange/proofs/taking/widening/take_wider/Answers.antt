use Rattle.std.proofs.Common.{◌∙◌, sym, subst}
use Rattle.cs_store.specs.Contents.{Contents}
use Rattle.cs_store.specs.declared.fault.StoreFault.TheVariants as stored
use Rattle.cs_pending.specs.Storing.{then_not_written, then_written, went_well}
use Rattle.cs_pending.specs.position.Shows.{ShowsSomeAt}
use Rattle.cs_exchange.proofs.TakingLemmas.Widened.{widened_count, widened_in}
use Rattle.cs_exchange.proofs.taking.widening.take_wider.Goals as goal

pub returns-in-Ok-commit_wider-clause-writes : goal.returns-in-Ok-commit_wider-clause-writes
returns-in-Ok-commit_wider-clause-writes g c =
    then_written g.S.RowStore _ _ _ _ _ c.args.store.now c.gather_wider.new.store c.commit_wider.new.store
    (λ some. some)
    (λ honest some. subst (λ (cs : Contents). ShowsSomeAt c.args.catalog.now c.args.position.now cs) (sym (c.in-Ok.ensures.reads.same honest)) some)
    (λ honest left committed. widened_in c.args.catalog.now c.args.wide.now c.args.position.now c.args.name.now c.args.width (g.S.RowStore.contents c.args.store.now) (g.S.RowStore.contents c.gather_wider.new.store) left c.in-Ok.settling
    c.requires.may c.requires.wide (c.in-Ok.ensures.reads.same honest) (c.in-Ok.ensures.settled honest) committed)
    (went_well g.S.RowStore stored.Device _ c.args.store.now c.gather_wider.new.store c.in-Ok.settling c.in-Ok.ensures.reads)
    stored.Device stored.Device c.in-Ok-commit_wider.count c.in-Ok-commit_wider.count c.in-Ok-commit_wider.ensures.writes

pub returns-in-Ok-commit_wider-clause-counted : goal.returns-in-Ok-commit_wider-clause-counted
returns-in-Ok-commit_wider-clause-counted g c = λ honest some.
    let before = c.in-Ok-commit_wider.ensures.writes.was_honest honest in
    c.in-Ok-commit_wider.ensures.counted
    ∙ widened_count c.args.catalog.now c.args.wide.now c.args.position.now c.args.name.now c.args.width (g.S.RowStore.contents c.args.store.now) (g.S.RowStore.contents c.gather_wider.new.store) (g.S.RowStore.contents c.commit_wider.new.store) c.in-Ok.settling
    c.requires.may c.requires.wide (c.in-Ok.ensures.reads.same before) (c.in-Ok.ensures.settled before) (c.in-Ok-commit_wider.ensures.writes.ok honest) some

pub returns-in-Err-commit_wider-clause-writes : goal.returns-in-Err-commit_wider-clause-writes
returns-in-Err-commit_wider-clause-writes g c =
    then_not_written g.S.RowStore _ _ _ _ _ c.args.store.now c.gather_wider.new.store c.commit_wider.new.store
    (λ some. some)
    (λ honest some. subst (λ (cs : Contents). ShowsSomeAt c.args.catalog.now c.args.position.now cs) (sym (c.in-Ok.ensures.reads.same honest)) some)
    (λ honest left committed. widened_in c.args.catalog.now c.args.wide.now c.args.position.now c.args.name.now c.args.width (g.S.RowStore.contents c.args.store.now) (g.S.RowStore.contents c.gather_wider.new.store) left c.in-Ok.settling
    c.requires.may c.requires.wide (c.in-Ok.ensures.reads.same honest) (c.in-Ok.ensures.settled honest) committed)
    (went_well g.S.RowStore stored.Device _ c.args.store.now c.gather_wider.new.store c.in-Ok.settling c.in-Ok.ensures.reads)
    stored.Device c.in-Err-commit_wider.fault stored.Device c.in-Err-commit_wider.fault (λ e. e) c.in-Err-commit_wider.ensures.writes
