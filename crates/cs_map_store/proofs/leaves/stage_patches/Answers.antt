use Rattle.std.proofs.Common.{◌≡◌, ◌+◌, ◌-◌, ◌<◌, ◌≤◌, ◌∷◌, [], ◌++◌, inr, List, T, take, drop, fold, length, ap, sym, subst, ◌∙◌, arith}
use Rattle.std.specs.FinMap.{is_sorted}
use Rattle.std.proofs.lemmas.List.{length-drop}
use Rattle.std.proofs.lemmas.List.Elements.{All-push}
use Rattle.cs_store.specs.Contents.{place_cmp}
use Rattle.cs_leaf.specs.Entries.{Entry}
use Rattle.cs_leaf.specs.Edits.{Rise, edited, store_place}
use Rattle.cs_map_store.specs.Leaves.{AreBefore, ArePatches, BeginsBehind, BeginsBy, ReachLeaf, flat, nth_leaf, patched}
use Rattle.cs_store.specs.edits.Edits.{BodyEdit}
use Rattle.cs_map_store.specs.declared.leaves.Patch.{Patch}
use Rattle.cs_map_store.proofs.Leafing.{from_there, reach_begins, leaf_sorted, rise_drop, patch_more, length_patched, patched_push, drop_set, drop_drop, length_set, later, nth_later, rest_of}
use Rattle.cs_map_store.proofs.Taking.{before_same, begins_back, begins_same, patched_more, reach_same, restored_more}
use Rattle.cs_map_store.proofs.leaves.stage_patches.Goals as goal

pub leaf_of-at-requires-clause-in_bounds : goal.leaf_of-at-requires-clause-in_bounds
leaf_of-at-requires-clause-in_bounds c =
    let leaves = c.args.leaves.now.items in
    let edits = c.args.edits.now in
    let start = c.loop-start.start in
    let was = c.loop-start.invariant in
    let is = from_there edits start c.get.result c.get.ensures in
    let begins = reach_begins leaves c.loop-start.from _ _ c.get.result c.requires.some is was.reach in
    omega (arith, begins.0, was.long, ap length c.as_slice-in-loop-start.ensures.value)

pub leaf_of-at-requires-clause-begins : goal.leaf_of-at-requires-clause-begins
leaf_of-at-requires-clause-begins c =
    let leaves = c.args.leaves.now.items in
    let now = c.loop-start.leaves.items in
    let edits = c.args.edits.now in
    let start = c.loop-start.start in
    let from = c.loop-start.from in
    let was = c.loop-start.invariant in
    let is = from_there edits start c.get.result c.get.ensures in
    let begins = reach_begins leaves from _ _ c.get.result c.requires.some is was.reach in
    subst (λ (ls : List (List Entry)). BeginsBy ls from (store_place c.get.result)) (sym c.as_slice-in-loop-start.ensures.value)
    (begins_same now leaves from from (store_place c.get.result) (omega arith) was.behind begins.1)

pub edits_before-requires-clause-first : goal.edits_before-requires-clause-first
edits_before-requires-clause-first c =
    let edits = c.args.edits.now in
    let start = c.loop-start.start in
    let at = c.leaf_of-at.result in
    let now = c.as_slice-in-loop-start-2.result.now in
    let same = c.as_slice-in-loop-start.ensures.value ∙ sym c.as_slice-in-loop-start-2.ensures.value in
    let rest_is : c.part-rest.result ≡ c.get.result ∷ drop (start + 1) edits =
    c.part-rest.ensures ∙ ap (λ n. take (n - start) (drop start edits)) c.len-in-loop-start.ensures ∙ rest_of edits start ∙ from_there edits start c.get.result c.get.ensures in
    subst (λ (ws : List BodyEdit). AreBefore now (at + 1) (take 1 ws)) (sym rest_is)
    (subst (λ (ls : List (List Entry)). BeginsBehind ls (at + 1) (store_place c.get.result)) same c.leaf_of-at.ensures.next, tt)

pub stage_leaf-requires-clause-sorted : goal.stage_leaf-requires-clause-sorted
stage_leaf-requires-clause-sorted c =
    let leaves = c.args.leaves.now.items in
    let was = c.loop-start.invariant in
    let at = c.leaf_of-at.result in
    let bound = c.leaf_of-at.ensures.bound in
    let less : at < length leaves = omega (arith, bound.1, was.long, ap length c.as_slice-in-loop-start.ensures.value) in
    subst (λ (leaf : List Entry). T (is_sorted place_cmp leaf)) (sym (nth_later c.loop-start.leaves.items leaves c.loop-start.from at bound.0 was.behind)) (leaf_sorted leaves at c.requires.leaves.rise less)

pub stage_leaf-requires-clause-rise : goal.stage_leaf-requires-clause-rise
stage_leaf-requires-clause-rise c =
    let edits = c.args.edits.now in
    let start = c.loop-start.start in
    let count = c.in-Some.count in
    let ws = drop start edits in
    let n : start + count - start ≡ count = omega arith in
    let rest_is : c.part-rest.result ≡ ws = c.part-rest.ensures ∙ ap (λ n. take (n - start) ws) c.len-in-loop-start.ensures ∙ rest_of edits start in
    subst Rise (ap (take count) rest_is ∙ sym (c.part.ensures ∙ ap (λ k. take k ws) n)) c.in-Some.ensures.rise

pub loop-start-preserved : goal.loop-start-preserved
loop-start-preserved c =
    let leaves = c.args.leaves.now.items in
    let now = c.loop-start.leaves.items in
    let next = c.stage_leaf.new.leaves.items in
    let edits = c.args.edits.now in
    let start = c.loop-start.start in
    let from = c.loop-start.from in
    let at = c.leaf_of-at.result in
    let count = c.in-Some.count in
    let was = c.loop-start.invariant in
    let change = c.in_ok-change.change in
    let made = change.1 in
    let old = c.loop-start.patches.items in
    let new = c.push_reserved.new.self.items in
    let so_far = patched leaves old in
    let patch : Patch = record { at = at; change = change } in
    let ws = drop start edits in
    let bound = c.leaf_of-at.ensures.bound in
    let there : at < length now = omega (arith, bound.1, ap length c.as_slice-in-loop-start.ensures.value) in
    let less : at < length leaves = omega (arith, there, was.long) in
    let is = from_there edits start c.get.result c.get.ensures in
    let n : start + count - start ≡ count = omega arith in
    let mine : c.part.result ≡ take count ws = c.part.ensures ∙ ap (λ k. take k ws) n in
    let its : nth_leaf now at ≡ nth_leaf leaves at = nth_later now leaves from at bound.0 was.behind in
    let makes : made ≡ fold edited (nth_leaf leaves at) (take count ws) = c.in_ok-change.ensures.made ∙ (λ i. fold edited (its i) (mine i)) in
    let le : from ≤ at + 1 = omega (arith, bound.0) in
    let rest_is : c.part-rest.result ≡ ws = c.part-rest.ensures ∙ ap (λ n. take (n - start) ws) c.len-in-loop-start.ensures ∙ rest_of edits start in
    let here : c.as_slice-in-loop-start.result.now ≡ now = c.as_slice-in-loop-start.ensures.value in
    let here_2 : c.as_slice-in-loop-start-2.result.now ≡ now = c.as_slice-in-loop-start-2.ensures.value in
    let before : AreBefore leaves (at + 1) (take count ws) = before_same now leaves from (at + 1) (take count ws) le was.long was.behind
    (subst (λ (ls : List (List Entry)). AreBefore ls (at + 1) (take count ws)) here_2 (subst (λ (vs : List BodyEdit). AreBefore c.as_slice-in-loop-start-2.result.now (at + 1) (take count vs)) rest_is c.in-Some.ensures.before)) in
    let behind : ReachLeaf leaves (at + 1) (drop count ws) = reach_same now leaves from (at + 1) (drop count ws) le was.long was.behind
    (subst (λ (ls : List (List Entry)). ReachLeaf ls (at + 1) (drop count ws)) here_2 (subst (λ (vs : List BodyEdit). ReachLeaf c.as_slice-in-loop-start-2.result.now (at + 1) (drop count vs)) rest_is c.in-Some.ensures.behind)) in
    let begins : BeginsBy leaves at (store_place c.get.result) = begins_back now leaves from at (store_place c.get.result) bound.0 was.behind
    (subst (λ (ls : List (List Entry)). BeginsBy ls at (store_place c.get.result)) here c.leaf_of-at.ensures.begins) in
    let rise : Rise (take count ws) = subst (λ (vs : List BodyEdit). Rise (take count vs)) rest_is c.in-Some.ensures.rise in
    let more = patch_more leaves so_far from at count c.get.result ws (drop (start + 1) edits) made _ c.requires.leaves (length_patched old leaves) was.sorted was.rest
    bound.0 less begins is c.in-Some.ensures.bound.0 before rise c.edited_entries.ensures.behind c.edited_entries.ensures.before makes was.made in
    let grown : new ≡ old ++ patch ∷ [] = c.push_reserved.ensures.items ∙ ap (λ (ps : List Patch). ps ++ patch ∷ []) c.reserve.ensures.items in
    let put = ap (patched leaves) grown ∙ patched_push old leaves patch in
    let rest : drop (start + count) edits ≡ drop count ws = drop_drop start count edits in
    let left = c.in_ok-change.ensures.left in
    record {
      within = omega (arith, c.in-Some.ensures.bound.1, ap length rest_is, length-drop start edits, was.within);
      long = ap length left ∙ length_set now at [] ∙ was.long;
      places = subst (ArePatches (length leaves)) (sym grown) (All-push (λ (p : Patch). p.at < length leaves) old patch was.places less);
      behind = ap (drop (at + 1)) left ∙ drop_set now at [] ∙ later now leaves from (at + 1) le was.behind;
      restored = restored_more leaves now next old new patch there left c.in_ok-change.ensures.before grown was.restored;
      same = patched_more leaves now next old new patch left grown was.same;
      rest = ap (drop (at + 1)) put ∙ drop_set so_far at made ∙ later so_far leaves from (at + 1) le was.rest;
      sorted = subst (λ (es : List Entry). T (is_sorted place_cmp es)) (sym (ap flat put ∙ more.0)) (c.edited_entries.ensures.order (take count ws) (flat so_far) was.sorted);
      reach = inr (subst (ReachLeaf leaves (at + 1)) (sym rest) behind);
      made = (λ i. fold edited (flat (put i)) (rest i)) ∙ more.1;
    }

pub returns-in_default-clause-falls : goal.returns-in_default-clause-falls
returns-in_default-clause-falls c =
    let edits = c.args.edits.now in
    let start = c.loop-start.start in
    let rest_is : c.part-rest.result ≡ drop start edits = c.part-rest.ensures ∙ ap (λ n. take (n - start) (drop start edits)) c.len-in-loop-start.ensures ∙ rest_of edits start in
    λ _ rise. c.edits_before.ensures.falls c.in_default.is (subst Rise (sym rest_is) (rise_drop edits start rise))
