use Rattle.std.proofs.Common.{◌+◌, List, ℕ, drop, refl, subst, sym}
use Rattle.cs_change.specs.declared.change.Change.{Change}
use Rattle.cs_pending.specs.Shows.{ShowsRows, ShowsSome}
use Rattle.cs_pending.specs.Storing.{then_well, went_well}
use Rattle.cs_pending.specs.View.{middle}
use Rattle.cs_store.specs.Contents.{Contents}
use Rattle.cs_opening.specs.Steps.{IsNetTo}
use Rattle.cs_opening.proofs.Walked.{rest_at, tells_more}
use Rattle.cs_opening.proofs.flying.all_lead_before.Goals as goal

pub loop-at-preserved : goal.loop-at-preserved
loop-at-preserved g c =
    let changes = c.args.changes.now in
    let at = c.loop-at.at in
    record {
      read = then_well g.S.RowStore _ _ _ c.args.store.now c.loop-at.store c.leads_before.new.store
          (λ some. some)
          (λ honest some. subst (λ (left : Contents). ShowsSome c.args.catalog.now left) (sym (c.loop-at.invariant.read.same honest)) some)
          c.loop-at.invariant.read
          (went_well g.S.RowStore _ _ _ _ _ c.in-Ok-true.ensures.reads);
      told = λ honest view shows.
          let was = c.in-Ok-true.ensures.reads.was_honest honest in
          let still = subst (λ (left : Contents). ShowsRows c.args.catalog.now left view) (sym (c.loop-at.invariant.read.same was)) shows in
          let here = (rw c.in-Ok-true.field-0-test at c.in-Ok-true.ensures.told) honest view still in
          tells_more (λ (entry : List ℕ × Change). IsNetTo c.args.table.now.key_marks entry.1 (middle view c.args.table.now.name entry.0)) changes (drop at changes) (drop (at + 1) changes) (c.in-Some.key.now, c.in-Some.change)
          (rest_at changes at (c.in-Some.key.now, c.in-Some.change) c.in-Some.ensures) (here.0 refl) (c.loop-at.invariant.told was view shows);
    }
