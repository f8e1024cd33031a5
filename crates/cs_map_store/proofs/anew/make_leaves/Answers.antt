use Rattle.std.proofs.Common.{[], ◌≡◌, ◌+◌, ◌-◌, ◌++◌, inr, List, T, take, drop, fold, length, ap, sym, subst, ◌∙◌, arith}
use Rattle.std.specs.FinMap.{is_sorted}
use Rattle.std.proofs.lemmas.List.{get_or_default, length-drop}
use Rattle.cs_store.specs.edits.Edits.{BodyEdit}
use Rattle.cs_store.specs.Contents.{place_cmp}
use Rattle.cs_leaf.specs.Entries.{Entry}
use Rattle.cs_leaf.specs.Edits.{Rise, edited}
use Rattle.cs_map_store.specs.Leaves.{AreBefore, ReachLeaf, flat, nth_leaf}
use Rattle.cs_map_store.proofs.Leafing.{drop_drop, leaf_sorted, rest_of, rise_drop}
use Rattle.cs_map_store.proofs.Remaking.{anew_more}
use Rattle.cs_map_store.proofs.anew.make_leaves.Goals as goal

pub returns-in_default-clause-falls : goal.returns-in_default-clause-falls
returns-in_default-clause-falls c =
    let edits = c.args.edits.now in
    let start = c.loop-at.start in
    let rest_is : c.part-rest.result ≡ drop start edits = c.part-rest.ensures ∙ ap (λ n. take (n - start) (drop start edits)) c.len.ensures ∙ rest_of edits start in
    λ _ rise. c.count_before.ensures.falls c.in_default.is (subst Rise (sym rest_is) (rise_drop edits start rise))

pub push_edited-requires-clause-sorted : goal.push_edited-requires-clause-sorted
push_edited-requires-clause-sorted c =
    let leaves = c.args.leaves.now in
    subst (λ (leaf : List Entry). T (is_sorted place_cmp leaf)) (sym (c.index-leaves-at.is ∙ get_or_default leaves c.loop-at.at c.index-leaves-at.result [] (omega arith))) (leaf_sorted leaves c.loop-at.at c.requires.leaves.rise (omega arith))

pub loop-at-preserved : goal.loop-at-preserved
loop-at-preserved c =
    let leaves = c.args.leaves.now in
    let edits = c.args.edits.now in
    let at = c.loop-at.at in
    let start = c.loop-at.start in
    let count = c.in-Some.count in
    let was = c.loop-at.invariant in
    let ws = drop start edits in
    let made = flat c.loop-at.made.items in
    let new = flat c.push_edited.new.made.items in
    let n : start + count - start ≡ count = omega arith in
    let rest_is : c.part-rest.result ≡ ws = c.part-rest.ensures ∙ ap (λ n. take (n - start) ws) c.len.ensures ∙ rest_of edits start in
    let mine : c.part.result ≡ take count ws = c.part.ensures ∙ ap (λ k. take k ws) n in
    let its : c.index-leaves-at.result ≡ nth_leaf leaves at = c.index-leaves-at.is ∙ get_or_default leaves at c.index-leaves-at.result [] (omega arith) in
    let before : AreBefore leaves (at + 1) (take count ws) = subst (λ (vs : List BodyEdit). AreBefore leaves (at + 1) (take count vs)) rest_is c.in-Some.ensures.before in
    let behind : ReachLeaf leaves (at + 1) (drop count ws) = subst (λ (vs : List BodyEdit). ReachLeaf leaves (at + 1) (drop count vs)) rest_is c.in-Some.ensures.behind in
    let rise : Rise (take count ws) = subst (λ (vs : List BodyEdit). Rise (take count vs)) rest_is c.in-Some.ensures.rise in
    let is : new ≡ made ++ fold edited (nth_leaf leaves at) (take count ws) = c.in_ok-push_edited.ensures.same ∙ (λ i. made ++ fold edited (its i) (mine i)) in
    let rest : drop (start + count) edits ≡ drop count ws = drop_drop start count edits in
    let more = anew_more leaves at count made new ws _ c.requires.leaves (omega arith) was.sorted was.none was.reach before rise
    c.edited_entries.ensures.behind c.edited_entries.ensures.before c.edited_entries.ensures.order is was.made in
    record {
      within = omega (arith, c.in-Some.ensures.bound, ap length rest_is, length-drop start edits, was.within);
      full = c.in_ok-push_edited.ensures.full was.full;
      none = λ e. absurd (omega (arith, e));
      sorted = more.0;
      reach = inr (subst (ReachLeaf leaves (at + 1)) (sym rest) behind);
      made = ap (fold edited (new ++ flat (drop (at + 1) leaves))) rest ∙ more.1;
    }
