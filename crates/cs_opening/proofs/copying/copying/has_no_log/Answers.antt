use Rattle.std.proofs.Common.{ap, ◌∙◌}
use Rattle.cs_store.specs.Contents.{log_count}
use Rattle.cs_opening.proofs.CopyingLemmas.Whole.{count_none}
use Rattle.cs_opening.proofs.copying.copying.has_no_log.Goals as goal

pub returns-clause-told : goal.returns-clause-told
returns-clause-told g c = λ honest.
    let was = c.in_ok-entries.ensures.reads.was_honest honest in
    let same = c.in_ok-whole.ensures.reads.same was in
    let none = count_none (g.S.RowStore.contents c.args.store.now) c.in_ok-entries.entries (c.in_ok-entries.ensures.counted honest ∙ ap log_count same) in
    let whole = (c.in_ok-whole.ensures.checked was).0 c.if-not-whole.false in
    ((λ t. (whole, none.0 t)), (λ both. none.1 both.1))
