use Rattle.std.proofs.Common.{◌≡◌, ◌+◌, ◌-◌, true, false, take, sym, ap, subst, ◌∙◌, arith}
use Rattle.std.specs.Ordering.{is_gt, is_lt}
use Rattle.std.specs.List.{slice_get}
use Rattle.cs_leaf.specs.Edits.{store_place}
use Rattle.cs_store.specs.Contents.{StorePlace, place_cmp}
use Rattle.cs_map_store.specs.Leaves.{AreBefore, BeginsBehind, ReachLeaf, first_place}
use Rattle.cs_map_store.proofs.Leafing.{before_push, from_there, up_to}
use Rattle.cs_map_store.proofs.Ordered.{falls_there, less_if, rise_more}
use Rattle.cs_map_store.proofs.leaves.edits_before.Goals as goal

pub returns-then-not-is_before-clause-behind : goal.returns-then-not-is_before-clause-behind
returns-then-not-is_before-clause-behind c =
    let leaves = c.args.leaves.now in
    let next = c.args.next in
    let here = from_there c.args.edits.now c.loop-count.count c.get-in-loop-count.result c.get-in-loop-count.ensures in
    let reach = c.is_before.ensures.reaches c.if-not-is_before.true in
    subst (ReachLeaf leaves next) (sym here) (reach.0, ap (λ (p : StorePlace). is_gt (place_cmp (first_place leaves next) p)) (sym c.of_edit-place.ensures) ∙ reach.1)

pub returns-then-not-is_lt-clause-falls : goal.returns-then-not-is_lt-clause-falls
returns-then-not-is_lt-clause-falls c =
    let k = c.loop-count.count in
    let last = c.loop-count.invariant.last in
    let fall : is_lt (place_cmp (store_place last.0) (store_place c.get-in-loop-count.result)) ≡ false =
    (λ i. is_lt (place_cmp (sym last.2 i) (sym c.of_edit-place.ensures i))) ∙ ap is_lt (sym c.compare.ensures) ∙ sym c.is_lt.ensures ∙ c.if-not-is_lt.true in
    λ _ rise. falls_there c.args.edits.now (k - 1) k last.0 c.get-in-loop-count.result (omega (arith, c.loop-count.invariant.some)) last.1 c.get-in-loop-count.ensures fall rise

pub loop-count-preserved : goal.loop-count-preserved
loop-count-preserved c =
    let leaves = c.args.leaves.now in
    let next = c.args.next in
    let edits = c.args.edits.now in
    let k = c.loop-count.count in
    let was = c.loop-count.invariant in
    let edit = c.get-in-loop-count.result in
    let last = was.last in
    let less : is_lt (place_cmp (store_place last.0) (store_place edit)) ≡ true =
    (λ i. is_lt (place_cmp (sym last.2 i) (sym c.of_edit-place.ensures i))) ∙ ap is_lt (sym c.compare.ensures) ∙ sym c.is_lt.ensures ∙ c.if-not-is_lt.false in
    let n : k + 1 - 1 ≡ k = omega arith in
    record {
      some = omega arith;
      within = omega arith;
      before = subst (AreBefore leaves next) (sym (up_to edits k edit c.get-in-loop-count.ensures))
          (before_push leaves next (take k edits) edit was.before (subst (BeginsBehind leaves next) c.of_edit-place.ensures (c.is_before.ensures.before c.if-not-is_before.false)));
      rise = rise_more edits (k - 1) k last.0 edit (omega (arith, was.some)) last.1 c.get-in-loop-count.ensures (less_if _ less) was.rise;
      last = (edit, ap (slice_get edits) n ∙ c.get-in-loop-count.ensures, c.of_edit-place.ensures);
    }
