use Rattle.std.proofs.Common.{◌≡◌, [], ap, subst, sym, ◌∙◌}
use Rattle.std.specs.FinMap.{get, get-empty}
use Rattle.std.specs.Prelude.{pos}
use Rattle.cs_store.specs.Contents.{Bodies, Contents, IsListing, place_cmp, stored_pending, stored_tables}
use Rattle.cs_store.specs.Written.{pairs_of}
use Rattle.cs_opening.proofs.CopyingLemmas.Whole.{none_listed, some_listed}
use Rattle.cs_opening.proofs.copying.copying.copy_table.Goals as goal

pub returns-then-not-are_none-clause-told : goal.returns-then-not-are_none-clause-told
returns-then-not-are_none-clause-told g c = λ honest none.
    let empty = some_listed (stored_pending (g.S.RowStore.contents c.args.store.now) c.args.number) c.in_ok-pending.pending.items (c.in_ok-pending.ensures.listed honest)
    (λ key. ap (λ (bodies : Bodies). get bodies (pos c.args.number, key)) none ∙ get-empty place_cmp (pos c.args.number, key)) in
    c.are_none.ensures.some c.if-not-are_none.true (c.as_slice.ensures.value ∙ empty)

pub returns-clause-told : goal.returns-clause-told
returns-clause-told g c = λ honest copied.
    let was = c.in_ok-listed.ensures.reads.was_honest honest in
    let same = c.in_ok-pending.ensures.reads.same was in
    let none : c.in_ok-pending.pending.items ≡ [] = sym c.as_slice.ensures.value ∙ c.are_none.ensures.none c.if-not-are_none.false in
    c.in_ok-put_rows.ensures (g.S.RowStore.contents c.args.store.now)
    (subst (λ (contents : Contents). IsListing (stored_tables contents c.args.number) (pairs_of c.in_ok-listed.listed.items)) same (c.in_ok-listed.ensures.listed honest))
    (none_listed (stored_pending (g.S.RowStore.contents c.args.store.now) c.args.number) c.in_ok-pending.pending.items none (c.in_ok-pending.ensures.listed was))
    copied
