use Rattle.std.proofs.Common.{arith, ap, drop, subst, sym, ◌∙◌, ◌-◌, ℕ, min}
use Rattle.cs_pending.specs.Storing.{went_well}
use Rattle.cs_store.specs.Contents.{Contents}
use Rattle.cs_store.specs.declared.fault.StoreFault.TheVariants.{Device}
use Rattle.cs_store.specs.log.Log.{catalog_at}
use Rattle.cs_hub.specs.catching.Catches.{Catches}
use Rattle.cs_hub.specs.declared.catching.caught.Caught.TheVariants.{Merged}
use Rattle.cs_hub.specs.log_store.Shows.{ShowsLog}
use Rattle.cs_hub.specs.log_store.Versions.{ShowsSomeBy}
use Rattle.cs_hub.proofs.CaughtTold.{own_told, then_read}
use Rattle.cs_hub.proofs.serving.told_at.Goals as goal

pub returns-in-Ok-Alone-clause-reads : goal.returns-in-Ok-Alone-clause-reads
returns-in-Ok-Alone-clause-reads g c =
    then_read g.S.RowStore Device _ _ (ShowsSomeBy c.args.catalogs.now (g.S.RowStore.contents c.args.store.now)) c.args.store.now c.catch_at.new.store c.entries_told.new.store c.entries_told.result
    (λ shown. shown)
    (λ honest (log, shows). (log, subst (λ (held : Contents). ShowsLog c.args.catalogs.now.opening held log) (sym (c.in-Ok-Alone.ensures.reads.same honest)) shows.0, omega (arith, shows.1, c.requires, c.min-count.ensures, c.newest.ensures)))
    (went_well g.S.RowStore Device _ c.args.store.now c.catch_at.new.store _ c.in-Ok-Alone.ensures.reads)
    (rw c.opening.ensures at c.entries_told.ensures.reads)

pub returns-in-Ok-Alone-clause-told : goal.returns-in-Ok-Alone-clause-told
returns-in-Ok-Alone-clause-told g c = λ honest log shows.
    let mid = c.entries_told.ensures.reads.was_honest honest in
    own_told c.args.catalogs.now.opening log c.args.asker c.args.first c.args.limit c.min-count.result c.entries_told.result (omega (arith, shows.1, c.requires)) (c.min-count.ensures ∙ ap (λ (n : ℕ). min 1 (n - c.args.first)) (c.newest.ensures ∙ shows.1))
    (subst (Catches (catalog_at c.args.catalogs.now.opening log c.args.first) c.args.asker c.args.limit (drop c.args.first log)) c.in-Ok-Alone.field-0-is (c.in-Ok-Alone.ensures.told mid log shows))
    ((rw c.opening.ensures at c.entries_told.ensures.told) honest log (subst (λ (held : Contents). ShowsLog c.args.catalogs.now.opening held log) (sym (c.in-Ok-Alone.ensures.reads.same mid)) shows.0) (omega (arith, shows.1, c.requires, c.min-count.ensures, c.newest.ensures)))

pub returns-in_ok-answer-in-Ok-Merged-clause-told : goal.returns-in_ok-answer-in-Ok-Merged-clause-told
returns-in_ok-answer-in-Ok-Merged-clause-told g c = λ honest log shows.
    let catches = subst (Catches (catalog_at c.args.catalogs.now.opening log c.args.first) c.args.asker c.args.limit (drop c.args.first log)) c.in-Ok-Merged.field-0-is (c.in-Ok-Merged.ensures.told honest log shows) in
    (Merged c.in-Ok-Merged.count c.in-Ok-Merged.changes, catches, c.in_ok-answer-in-Ok-Merged.ensures)
