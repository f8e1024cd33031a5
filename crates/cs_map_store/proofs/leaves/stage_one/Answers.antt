use Rattle.std.proofs.Common.{◌<◌, ◌+◌, [], List, T, ap, sym, subst, ◌∙◌, length, arith}
use Rattle.std.specs.Prelude.{slice_set}
use Rattle.std.specs.FinMap.{is_sorted}
use Rattle.std.proofs.lemmas.List.{get_or_default}
use Rattle.cs_leaf.specs.Entries.{Entry}
use Rattle.cs_leaf.specs.Edits.{edited}
use Rattle.cs_store.specs.Contents.{place_cmp}
use Rattle.cs_map_store.specs.Leaves.{BeginsBehind, BeginsBy}
use Rattle.cs_map_store.proofs.Leafing.{leaf_sorted, patch_one}
use Rattle.cs_map_store.proofs.Taking.{set_own, set_set}
use Rattle.cs_map_store.proofs.leaves.stage_one.Goals as goal

pub stage_one-requires-clause-sorted : goal.stage_one-requires-clause-sorted
stage_one-requires-clause-sorted c =
    let leaves = c.args.leaves.now.items in
    let at = c.leaf_near-at.result in
    let less : at < length leaves = omega (arith, c.leaf_near-at.ensures.bound, ap length c.as_slice.ensures.value) in
    let its = c.replace-leaf.ensures.value ∙ c.index_mut.ensures.value ∙ get_or_default leaves at c.index_mut.result.now [] less in
    subst (λ (leaf : List Entry). T (is_sorted place_cmp leaf)) (sym its) (leaf_sorted leaves at c.requires.leaves.rise less)

pub returns-in-Ok-clause-restored : goal.returns-in-Ok-clause-restored
returns-in-Ok-clause-restored c =
    let leaves = c.args.leaves.now.items in
    let at = c.leaf_near-at.result in
    let less : at < length leaves = omega (arith, c.leaf_near-at.ensures.bound, ap length c.as_slice.ensures.value) in
    let its = c.replace-leaf.ensures.value ∙ c.index_mut.ensures.value ∙ get_or_default leaves at c.index_mut.result.now [] less in
    set_set leaves at c.replace-leaf.new.dest c.in-Ok.change.0 ∙ ap (slice_set leaves at) (c.in-Ok.ensures.before ∙ its) ∙ set_own leaves at less

pub returns-in-Ok-clause-same : goal.returns-in-Ok-clause-same
returns-in-Ok-clause-same c = set_set c.args.leaves.now.items c.leaf_near-at.result c.replace-leaf.new.dest c.in-Ok.change.1

pub returns-in-Ok-clause-made : goal.returns-in-Ok-clause-made
returns-in-Ok-clause-made c =
    let leaves = c.args.leaves.now.items in
    let at = c.leaf_near-at.result in
    let edit = c.args.edit.now in
    let less : at < length leaves = omega (arith, c.leaf_near-at.ensures.bound, ap length c.as_slice.ensures.value) in
    let its = c.replace-leaf.ensures.value ∙ c.index_mut.ensures.value ∙ get_or_default leaves at c.index_mut.result.now [] less in
    patch_one leaves at edit c.of_edit-place.result c.in-Ok.change.1 c.requires.leaves less c.of_edit-place.ensures
    (subst (λ (ls : List (List Entry)). BeginsBy ls at c.of_edit-place.result) c.as_slice.ensures.value c.leaf_near-at.ensures.begins)
    (subst (λ (ls : List (List Entry)). BeginsBehind ls (at + 1) c.of_edit-place.result) c.as_slice.ensures.value c.leaf_near-at.ensures.next)
    c.edited_entries.ensures.behind c.edited_entries.ensures.before (c.in-Ok.ensures.after ∙ ap (λ (leaf : List Entry). edited leaf edit) its)

pub returns-in-Err-clause-err : goal.returns-in-Err-clause-err
returns-in-Err-clause-err c =
    let leaves = c.args.leaves.now.items in
    let at = c.leaf_near-at.result in
    let less : at < length leaves = omega (arith, c.leaf_near-at.ensures.bound, ap length c.as_slice.ensures.value) in
    let its = c.replace-leaf.ensures.value ∙ c.index_mut.ensures.value ∙ get_or_default leaves at c.index_mut.result.now [] less in
    set_set leaves at c.replace-leaf.new.dest c.in-Err.leaf ∙ ap (slice_set leaves at) (c.in-Err.ensures.err ∙ its) ∙ set_own leaves at less
