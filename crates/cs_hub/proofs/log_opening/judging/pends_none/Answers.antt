use Rattle.std.proofs.Common.{◌∙◌, ap}
use Rattle.std.specs.Prelude.{ℕ, ◌==◌}
use Rattle.cs_hub.proofs.LogOpeningLemmas.Listed.{listed_none}
use Rattle.cs_hub.proofs.log_opening.judging.pends_none.Goals as goal

pub returns-clause-told : goal.returns-clause-told
returns-clause-told g c = λ honest.
    listed_none (g.S.RowStore.contents c.args.store.now) c.args.number c.in_ok-listed.listed.items c.is_empty.result (c.in_ok-listed.ensures.listed honest)
    (c.is_empty.ensures ∙ ap (λ (n : ℕ). n == 0) c.in_ok-listed.listed.ok.0)
