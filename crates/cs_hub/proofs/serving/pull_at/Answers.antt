use Rattle.std.proofs.Common.{◌∙◌, ◌-◌, ℕ, ap, arith, min}
use Rattle.cs_store.specs.Calls.{MoreFailures}
use Rattle.cs_store.specs.declared.log.entry.TheConstants.{MAX_ENTRIES}
use Rattle.cs_hub.proofs.Answered.{entries}
use Rattle.cs_hub.proofs.serving.pull_at.Goals as goal

pub returns-in-Ok-clause-answered : goal.returns-in-Ok-clause-answered
returns-in-Ok-clause-answered g c = λ honest log shows.
    entries (MoreFailures (g.S.RowStore.failed c.args.store.now) (g.S.RowStore.failed c.entries_told.new.store)) MAX_ENTRIES c.args.catalogs.now.opening log
    c.args.first c.args.limit c.min.result c.in-Ok.answer.items (omega (arith, c.newest-newest.ensures, c.if-first-newest.false, shows.1))
    (c.min.ensures ∙ ap (λ (n : ℕ). min c.args.limit (n - c.args.first)) (c.newest-newest.ensures ∙ shows.1))
    ((rw c.opening.ensures at c.in-Ok.ensures.told) honest log shows.0 (omega (arith, c.min.ensures, c.newest-newest.ensures, c.if-first-newest.false, shows.1)))
