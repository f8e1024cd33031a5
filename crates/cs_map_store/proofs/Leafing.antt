-- Leaves whose places rise through all of them.
use Rattle.std.proofs.Common.{◌≡◌, ℕ, zero, suc, ◌+◌, ◌-◌, ◌<◌, ◌≤◌, ◌⊎◌, inl, inr, true, false, cond, List, [], ◌∷◌, ◌++◌, Some, None, refl, sym, ap, subst, ◌∙◌, T, length, get_or, take, drop, map, fold, filter, arith, ⊎_elim, is_gt}
use Rattle.std.specs.Prelude.{ℤ, slice_set, nat_lt}
use Rattle.std.specs.Cmp.{eq_by_cmp_equiv}
use Rattle.std.proofs.Math.Dec.{ltb}
use borrow.Author.Tests.{ltb-true, ltb-false, lt-ltb}
use Rattle.std.specs.declared.cmp.Ordering.{Ordering}
use Rattle.std.specs.declared.cmp.Ordering.TheVariants.{Less, Equal, Greater}
use Rattle.std.specs.List.{All, slice_get, slice_range, splice}
use Rattle.std.specs.Ordering.{int_eq, is_eq, eq_by_cmp, ordering_reverse}
use Rattle.std.specs.FinMap.{get, find, is_sorted, get-from_sorted}
use Rattle.std.specs.FinMap.Entries.{below_all}
use Rattle.std.proofs.lemmas.List.{append-nil, append_assoc, take-append-drop, drop_more, take_more, length-drop, get_or-drop, take_all}
use Rattle.std.proofs.lemmas.Option.{get_or_from_slice_get, same_Some, slice_get_within}
use Rattle.std.proofs.lemmas.List.Elements.{All-push, All-append, All-take, All-drop}
use Rattle.std.proofs.lemmas.List.Edits.{length-between}
use Rattle.std.specs.declared.vec.IntoIter.{IntoIter}
use Rattle.std.specs.Iterator.{Drains}
use Rattle.std.specs.Vec.Iter.{into_iter_items, into_iter_len, into_iter_steps}
use Rattle.std.proofs.lemmas.Iterator.{items_from_drains}
use Rattle.std.proofs.lemmas.Iterator.Adapters.{YieldsList-from_vec}
use Rattle.cs_store.specs.Contents.{StorePlace, place_cmp}
use Rattle.cs_leaf.specs.Entries.{Entry, no_entry, nth}
use Rattle.cs_leaf.specs.Edits.{AreBelow, AreEditsAbove, AreEditsBelow, store_place, edited, Rise, Follow}
use Rattle.cs_map_store.specs.Leaves.{AreBefore, AreLeaves, BeginsBehind, BeginsBy, ReachLeaf, first_place, flat, in_table, nth_leaf, bodies_in, patched, ArePatches}
use Rattle.cs_map_store.specs.declared.leaves.Patch.{Patch}
use Rattle.cs_store.specs.edits.Edits.{BodyEdit}
use Rattle.cs_leaf.specs.Laws.{EditsBeforeKeep, EditsBehindKeep}
use Rattle.cs_map_store.proofs.Maps.{place_total, place_exact}
use Rattle.cs_map_store.proofs.Rising.{first, second, both, less, is_less, below_split, sorted_back, sorted_front, below_most, below_less, above_less}

pub flat_append : (xs ys : List (List Entry)) → flat (xs ++ ys) ≡ flat xs ++ flat ys
flat_append [] ys = refl
flat_append (x ∷ xs) ys = ap (λ (zs : List Entry). x ++ zs) (flat_append xs ys) ∙ sym (append_assoc x (flat xs) (flat ys))

-- leaves more, at the end
pub leaves_more : (leaves more all : List (List Entry)) (leaf : List Entry) → all ≡ leaves ++ more → flat more ≡ leaf → flat all ≡ flat leaves ++ leaf
leaves_more leaves more all leaf is same = ap flat is ∙ flat_append leaves more ∙ ap (λ (zs : List Entry). flat leaves ++ zs) same

-- one more
pub leaf_more : (leaves all : List (List Entry)) (leaf : List Entry) → all ≡ leaves ++ leaf ∷ []
    → (flat all ≡ flat leaves ++ leaf) × (0 < length leaf → All (λ leaf. 0 < length leaf) leaves → All (λ leaf. 0 < length leaf) all)
leaf_more leaves all leaf is = (
  leaves_more leaves (leaf ∷ []) all leaf is (append-nil leaf),
  λ some full. subst (All (λ leaf. 0 < length leaf)) (sym is) (All-push (λ leaf. 0 < length leaf) leaves leaf full some),
)

take_slice : (es : List Entry) (n m : ℕ) → take (n + m) es ≡ take n es ++ take m (drop n es)
take_slice es zero m = let k : zero + m ≡ m = omega arith in ap (λ j. take j es) k
take_slice [] (suc n) m = let k : suc n + m ≡ suc (n + m) = omega arith in ap (λ j. take {A = Entry} j []) k ∙ sym (nothing m)
  where
    nothing : (m : ℕ) → take {A = Entry} m [] ≡ []
    nothing zero = refl
    nothing (suc m) = refl
take_slice (e ∷ es) (suc n) m = let k : suc n + m ≡ suc (n + m) = omega arith in ap (λ k. take k (e ∷ es)) k ∙ ap (λ (zs : List Entry). e ∷ zs) (take_slice es n m)

-- a piece more
pub pieces_more : (pieces all : List (List Entry)) (leaf made piece : List Entry) (from to : ℕ) → from < to → to ≤ length leaf → flat pieces ≡ take from leaf → All (λ piece. 0 < length piece) pieces
    → made ≡ [] → piece ≡ made ++ slice_range leaf from to → all ≡ pieces ++ piece ∷ [] → (flat all ≡ take to leaf) × All (λ piece. 0 < length piece) all
pieces_more pieces all leaf made piece from to less within so_far full none is grown =
    let n : from + (to - from) ≡ to = omega (arith, less) in
    let more = leaf_more pieces all piece grown in
    let its : piece ≡ slice_range leaf from to = is ∙ ap (λ (zs : List Entry). zs ++ slice_range leaf from to) none in (
      more.0 ∙ (λ i. so_far i ++ its i) ∙ sym (take_slice leaf from (to - from)) ∙ ap (λ k. take k leaf) n,
      more.1 (let l = ap length its in let k = length-between leaf from to within in omega (arith, l, k, less)) full,
    )

pub rise_back : (us ws : List BodyEdit) → Rise (us ++ ws) → Rise ws
rise_back [] ws h = h
rise_back (u ∷ us) ws h = rise_back us ws h.1

pub rise_front : (us ws : List BodyEdit) → Rise (us ++ ws) → Rise us
rise_front [] ws h = tt
rise_front (u ∷ us) ws h = (follows (store_place u) us ws h.0, rise_front us ws h.1)
  where
    follows : (p : StorePlace) (us ws : List BodyEdit) → Follow p (us ++ ws) → Follow p us
    follows p [] ws h = tt
    follows p (u ∷ us) ws h = (h.0, follows p us ws h.1)

-- what stands there, and what follows it
pub from_there : {X : Type 0} (xs : List X) (k : ℕ) (x : X) → slice_get xs k ≡ Some x → drop k xs ≡ x ∷ drop (k + 1) xs
from_there xs k x is = drop_more xs k x (slice_get_within xs k x is) ∙ ap (λ y. y ∷ drop (k + 1) xs) (get_or_from_slice_get xs k x x is)

-- what stands before it, and it
pub up_to : {X : Type 0} (xs : List X) (k : ℕ) (x : X) → slice_get xs k ≡ Some x → take (k + 1) xs ≡ take k xs ++ x ∷ []
up_to xs k x is = take_more xs k x (slice_get_within xs k x is) ∙ ap (λ y. take k xs ++ y ∷ []) (get_or_from_slice_get xs k x x is)

pub rise_drop : (edits : List BodyEdit) (k : ℕ) → Rise edits → Rise (drop k edits)
rise_drop edits k h = rise_back (take k edits) (drop k edits) (subst Rise (sym (take-append-drop k edits)) h)

pub rise_take : (edits : List BodyEdit) (k : ℕ) → Rise edits → Rise (take k edits)
rise_take edits k h = rise_front (take k edits) (drop k edits) (subst Rise (sym (take-append-drop k edits)) h)

-- ---- which leaf

pub before_none : (leaves : List (List Entry)) (at : ℕ) (ws : List BodyEdit) → at ≡ length leaves → AreBefore leaves at ws
before_none leaves at [] e = tt
before_none leaves at (w ∷ ws) e = (inl e, before_none leaves at ws e)

pub before_push : (leaves : List (List Entry)) (at : ℕ) (ws : List BodyEdit) (w : BodyEdit) → AreBefore leaves at ws → BeginsBehind leaves at (store_place w) → AreBefore leaves at (ws ++ w ∷ [])
before_push leaves at [] w h b = (b, tt)
before_push leaves at (v ∷ ws) w h b = (h.0, before_push leaves at ws w h.1 b)

pub flat_split : (leaves : List (List Entry)) (at : ℕ) → at < length leaves → flat leaves ≡ flat (take at leaves) ++ (nth_leaf leaves at ++ flat (drop (at + 1) leaves))
flat_split leaves at h = ap flat (sym (take-append-drop at leaves)) ∙ flat_append (take at leaves) (drop at leaves) ∙ ap (λ (ls : List (List Entry)). flat (take at leaves) ++ flat ls) (drop_more leaves at [] h)

pub some_first : (leaf : List Entry) → 0 < length leaf → leaf ≡ nth leaf 0 ∷ drop 1 leaf
some_first [] h = absurd (omega (arith, h))
some_first (e ∷ es) h = refl

-- all leaves before one that begins by a place are below it
pub leaves_before : (leaves : List (List Entry)) (at : ℕ) (p : StorePlace) → at < length leaves → 0 < length (nth_leaf leaves at) → T (is_sorted place_cmp (flat leaves)) → BeginsBy leaves at p → AreBelow (flat (take at leaves)) p
leaves_before leaves at p less some s by = ⊎_elim zeroth (λ g. below_most (flat (take at leaves)) (first_place leaves at) p g low) by
  where
    zeroth : at ≡ 0 → AreBelow (flat (take at leaves)) p
    zeroth e = subst (λ n. AreBelow (flat (take n leaves)) p) (sym e) tt

    whole : flat leaves ≡ flat (take at leaves) ++ (nth (nth_leaf leaves at) 0 ∷ (drop 1 (nth_leaf leaves at) ++ flat (drop (at + 1) leaves)))
    whole = flat_split leaves at less ∙ ap (λ (zs : List Entry). flat (take at leaves) ++ (zs ++ flat (drop (at + 1) leaves))) (some_first (nth_leaf leaves at) some)

    low : AreBelow (flat (take at leaves)) (first_place leaves at)
    low = below_split (flat (take at leaves)) (drop 1 (nth_leaf leaves at) ++ flat (drop (at + 1) leaves)) (nth (nth_leaf leaves at) 0) (subst (λ zs. T (is_sorted place_cmp zs)) whole s)

-- all leaves from one on that begins above a place are above it
pub leaves_behind : (leaves : List (List Entry)) (at : ℕ) (p : StorePlace) → at ≤ length leaves → (at < length leaves → 0 < length (nth_leaf leaves at)) → T (is_sorted place_cmp (flat leaves)) → BeginsBehind leaves at p → T (below_all place_cmp p (flat (drop at leaves)))
leaves_behind leaves at p within some s behind = ⊎_elim none above behind
  where
    none : at ≡ length leaves → T (below_all place_cmp p (flat (drop at leaves)))
    none e = subst (λ ls. T (below_all place_cmp p (flat ls))) (sym (no_more leaves at e)) tt
      where
        no_more : (ls : List (List Entry)) (n : ℕ) → n ≡ length ls → drop n ls ≡ []
        no_more [] zero e = refl
        no_more [] (suc n) e = refl
        no_more (l ∷ ls) zero e = absurd (omega (arith, e))
        no_more (l ∷ ls) (suc n) e = no_more ls n (omega (arith, e))

    above : is_gt (place_cmp (first_place leaves at) p) ≡ true → T (below_all place_cmp p (flat (drop at leaves)))
    above g = elim (ltb at (length leaves)) as (λ b. ltb at (length leaves) ≡ b → T (below_all place_cmp p (flat (drop at leaves)))) [
      | false ↦ λ e. none (omega (arith, within, ltb-false at (length leaves) e))
      | true ↦ λ e. there (ltb-true at (length leaves) e) (greater_from (place_cmp (first_place leaves at) p) g)
    ] refl
      where
        greater_from : (o : Ordering) → is_gt o ≡ true → o ≡ Greater
        greater_from Less h = absurd cc
        greater_from Equal h = absurd cc
        greater_from Greater h = refl

        there : at < length leaves → place_cmp (first_place leaves at) p ≡ Greater → T (below_all place_cmp p (flat (drop at leaves)))
        there less gt =
            let l : place_cmp p (first_place leaves at) ≡ Less = place_total.antisymm p (first_place leaves at) ∙ ap ordering_reverse gt in
            let rest : List Entry = drop 1 (nth_leaf leaves at) ++ flat (drop (at + 1) leaves) in
            let is : flat (drop at leaves) ≡ nth (nth_leaf leaves at) 0 ∷ rest = ap flat (drop_more leaves at [] less) ∙ ap (λ (zs : List Entry). zs ++ flat (drop (at + 1) leaves)) (some_first (nth_leaf leaves at) (some less)) in
            let sorted : T (is_sorted place_cmp (flat (drop at leaves))) = sorted_back (flat (take at leaves)) (flat (drop at leaves)) (subst (λ zs. T (is_sorted place_cmp zs)) (ap flat (sym (take-append-drop at leaves)) ∙ flat_append (take at leaves) (drop at leaves)) s) in
            let above_rest : T (below_all place_cmp (first_place leaves at) rest) = first _ _ (subst (λ zs. T (is_sorted place_cmp zs)) is sorted) in
            subst (λ zs. T (below_all place_cmp p zs)) (sym is) (both _ _ (is_less _ l) (above_less rest p (first_place leaves at) l above_rest))

-- ---- what stands at a place

find_behind : (xs ys : List Entry) (p : StorePlace) → AreBelow xs p → find place_cmp p (xs ++ ys) ≡ find place_cmp p ys
find_behind [] ys p h = refl
find_behind (x ∷ xs) ys p h = ap (λ o. cond (is_eq o) (Some x.1) (find place_cmp p (xs ++ ys))) (place_total.antisymm p x.0 ∙ ap ordering_reverse h.0) ∙ find_behind xs ys p h.1

find_above : (ys : List Entry) (p : StorePlace) → T (below_all place_cmp p ys) → find place_cmp p ys ≡ None
find_above [] p h = refl
find_above (y ∷ ys) p h = ap (λ o. cond (is_eq o) (Some y.1) (find place_cmp p ys)) (less _ (first _ _ h)) ∙ find_above ys p (second _ _ h)

find_before : (xs ys : List Entry) (p : StorePlace) → T (below_all place_cmp p ys) → find place_cmp p (xs ++ ys) ≡ find place_cmp p xs
find_before [] ys p h = find_above ys p h
find_before (x ∷ xs) ys p h = ap (cond (eq_by_cmp place_cmp p x.0) (Some x.1)) (find_before xs ys p h)

-- the row at a place is the one that its leaf has
pub find_in_leaf : (leaves : List (List Entry)) (at : ℕ) (p : StorePlace) → AreLeaves leaves → at < length leaves → BeginsBy leaves at p → BeginsBehind leaves (at + 1) p → get (bodies_in leaves) p ≡ find place_cmp p (nth_leaf leaves at)
find_in_leaf leaves at p are less by behind =
    get-from_sorted place_cmp (flat leaves) p are.rise ∙ ap (find place_cmp p) (flat_split leaves at less)
    ∙ find_behind (flat (take at leaves)) (nth_leaf leaves at ++ flat (drop (at + 1) leaves)) p (leaves_before leaves at p less (are.full at [] less) are.rise by)
    ∙ find_before (nth_leaf leaves at) (flat (drop (at + 1) leaves)) p (leaves_behind leaves (at + 1) p (omega (arith, less)) (λ more. are.full (at + 1) [] more) are.rise behind)

pub leaf_sorted : (leaves : List (List Entry)) (at : ℕ) → T (is_sorted place_cmp (flat leaves)) → at < length leaves → T (is_sorted place_cmp (nth_leaf leaves at))
leaf_sorted leaves at s less = sorted_front (nth_leaf leaves at) (flat (drop (at + 1) leaves))
    (sorted_back (flat (take at leaves)) (nth_leaf leaves at ++ flat (drop (at + 1) leaves)) (subst (λ zs. T (is_sorted place_cmp zs)) (flat_split leaves at less) s))

-- an entry of the place of a row is its row
pub find_met : (leaves : List (List Entry)) (at row : ℕ) (p : StorePlace) → T (is_sorted place_cmp (flat leaves)) → at < length leaves → row < length (nth_leaf leaves at) → place_cmp (nth (nth_leaf leaves at) row).0 p ≡ Equal → get (bodies_in leaves) p ≡ Some (nth (nth_leaf leaves at) row).1
find_met leaves at row p s less within e =
    get-from_sorted place_cmp (flat leaves) p s ∙ ap (find place_cmp p) whole ∙ find_behind front (here ∷ back) p low
    ∙ ap (λ b. cond b (Some here.1) (find place_cmp p back)) (ap (eq_by_cmp place_cmp p) (place_exact here.0 p e) ∙ (eq_by_cmp_equiv place_total).refl p)
  where
    leaf : List Entry
    leaf = nth_leaf leaves at

    here : Entry
    here = nth leaf row

    front : List Entry
    front = flat (take at leaves) ++ take row leaf

    back : List Entry
    back = drop (row + 1) leaf ++ flat (drop (at + 1) leaves)

    split : leaf ≡ take row leaf ++ (here ∷ drop (row + 1) leaf)
    split = sym (take-append-drop row leaf) ∙ ap (λ (zs : List Entry). take row leaf ++ zs) (drop_more leaf row no_entry within)

    whole : flat leaves ≡ front ++ (here ∷ back)
    whole = flat_split leaves at less ∙ ap (λ (zs : List Entry). flat (take at leaves) ++ (zs ++ flat (drop (at + 1) leaves))) split
        ∙ ap (λ (zs : List Entry). flat (take at leaves) ++ zs) (append_assoc (take row leaf) (here ∷ drop (row + 1) leaf) (flat (drop (at + 1) leaves)))
        ∙ sym (append_assoc (flat (take at leaves)) (take row leaf) (here ∷ back))

    low : AreBelow front p
    low = subst (AreBelow front) (place_exact here.0 p e) (below_split front back here (subst (λ zs. T (is_sorted place_cmp zs)) whole s))

-- ---- leaves that are put in

pub flat_set : (leaves : List (List Entry)) (at : ℕ) (leaf : List Entry) → at < length leaves → flat (slice_set leaves at leaf) ≡ flat (take at leaves) ++ (leaf ++ flat (drop (at + 1) leaves))
flat_set [] at leaf h = absurd (omega (arith, h))
flat_set (l ∷ ls) zero leaf h = refl
flat_set (l ∷ ls) (suc at) leaf h = ap (λ (zs : List Entry). l ++ zs) (flat_set ls at leaf (omega (arith, h))) ∙ sym (append_assoc l (flat (take at ls)) (leaf ++ flat (drop (at + 1) ls)))
    ∙ (let k : suc (at + 1) ≡ suc at + 1 = omega arith in ap (λ j. flat (l ∷ take at ls) ++ (leaf ++ flat (drop j (l ∷ ls)))) k)

pub drop_set : (leaves : List (List Entry)) (at : ℕ) (leaf : List Entry) → drop (at + 1) (slice_set leaves at leaf) ≡ drop (at + 1) leaves
drop_set [] at leaf = refl
drop_set (l ∷ ls) zero leaf = refl
drop_set (l ∷ ls) (suc at) leaf = let k : suc at + 1 ≡ suc (at + 1) = omega arith in ap (λ j. drop j (l ∷ slice_set ls at leaf)) k ∙ drop_set ls at leaf ∙ ap (λ j. drop j (l ∷ ls)) (sym k)

pub length_set : (leaves : List (List Entry)) (at : ℕ) (leaf : List Entry) → length (slice_set leaves at leaf) ≡ length leaves
length_set [] at leaf = refl
length_set (l ∷ ls) zero leaf = refl
length_set (l ∷ ls) (suc at) leaf = ap suc (length_set ls at leaf)

pub length_patched : (patches : List Patch) (leaves : List (List Entry)) → length (patched leaves patches) ≡ length leaves
length_patched [] leaves = refl
length_patched (p ∷ ps) leaves = length_patched ps (slice_set leaves p.at p.change.1) ∙ length_set leaves p.at p.change.1

pub patched_push : (patches : List Patch) (leaves : List (List Entry)) (p : Patch) → patched leaves (patches ++ p ∷ []) ≡ slice_set (patched leaves patches) p.at p.change.1
patched_push [] leaves p = refl
patched_push (q ∷ qs) leaves p = patched_push qs (slice_set leaves q.at q.change.1) p

pub drop_drop : {X : Type 0} (n m : ℕ) (xs : List X) → drop (n + m) xs ≡ drop m (drop n xs)
drop_drop {X = X} zero m xs = let k : zero + m ≡ m = omega arith in ap (λ j. drop j xs) k
drop_drop {X = X} (suc n) m [] = let k : suc n + m ≡ suc (n + m) = omega arith in ap (λ j. drop {A = X} j []) k ∙ sym (nothing m)
  where
    nothing : (m : ℕ) → drop {A = X} m [] ≡ []
    nothing zero = refl
    nothing (suc m) = refl
drop_drop {X = X} (suc n) m (x ∷ xs) = let k : suc n + m ≡ suc (n + m) = omega arith in ap (λ j. drop j (x ∷ xs)) k ∙ drop_drop n m xs

pub later : (now leaves : List (List Entry)) (from at : ℕ) → from ≤ at → drop from now ≡ drop from leaves → drop at now ≡ drop at leaves
later now leaves from at le same =
    let n : at ≡ from + (at - from) = omega (arith, le) in
    ap (λ k. drop k now) n ∙ drop_drop from (at - from) now ∙ ap (drop (at - from)) same ∙ sym (drop_drop from (at - from) leaves) ∙ ap (λ k. drop k leaves) (sym n)

pub nth_later : (now leaves : List (List Entry)) (from at : ℕ) → from ≤ at → drop from now ≡ drop from leaves → nth_leaf now at ≡ nth_leaf leaves at
nth_later now leaves from at le same =
    let n : at + 0 ≡ at = omega arith in
    ap (λ k. nth_leaf now k) (sym n) ∙ sym (get_or-drop at now 0 []) ∙ ap (λ (ls : List (List Entry)). get_or ls 0 []) (later now leaves from at le same) ∙ get_or-drop at leaves 0 [] ∙ ap (λ k. nth_leaf leaves k) n

pub below_edits : (es : List Entry) (p : StorePlace) (ws : List BodyEdit) → AreBelow es p → Follow p ws → AreEditsAbove es ws
below_edits es p [] low h = tt
below_edits es p (w ∷ ws) low h = (below_less es p (store_place w) h.0 low, below_edits es p ws low h.1)

pub fold_both : (es : List Entry) (us ws : List BodyEdit) → fold edited es (us ++ ws) ≡ fold edited (fold edited es us) ws
fold_both es [] ws = refl
fold_both es (u ∷ us) ws = fold_both (edited es u) us ws

-- the edits that fall into one leaf change it alone
pub patch_leaf : (leaves now : List (List Entry)) (from at : ℕ) (w : BodyEdit) (ws : List BodyEdit) → AreLeaves leaves → length now ≡ length leaves → T (is_sorted place_cmp (flat now)) → drop from now ≡ drop from leaves → from ≤ at → at < length leaves
    → BeginsBy leaves at (store_place w) → AreBefore leaves (at + 1) (w ∷ ws) → Rise (w ∷ ws) → EditsBehindKeep → EditsBeforeKeep → flat (slice_set now at (fold edited (nth_leaf leaves at) (w ∷ ws))) ≡ fold edited (flat now) (w ∷ ws)
patch_leaf leaves now from at w ws are long sorted same le less by before rise fold_behind fold_before =
    flat_set now at made there
    ∙ ap (λ (zs : List Entry). front ++ zs) (sym (fold_before (w ∷ ws) leaf back (edits_below (w ∷ ws) before)))
    ∙ sym (fold_behind (w ∷ ws) front (leaf ++ back) (low, below_edits front (store_place w) ws low rise.0))
    ∙ ap (λ (es : List Entry). fold edited es (w ∷ ws)) (ap (λ (l : List Entry). front ++ (l ++ back)) (sym is) ∙ sym (flat_split now at there))
  where
    leaf : List Entry
    leaf = nth_leaf leaves at

    made : List Entry
    made = fold edited (nth_leaf leaves at) (w ∷ ws)

    front : List Entry
    front = flat (take at now)

    back : List Entry
    back = flat (drop (at + 1) now)

    there : at < length now
    there = omega (arith, less, long)

    is : nth_leaf now at ≡ nth_leaf leaves at
    is = nth_later now leaves from at le same

    low : AreBelow front (store_place w)
    low = leaves_before now at (store_place w) there (subst (λ (l : List Entry). 0 < length l) (sym is) (are.full at [] less)) sorted
        (subst (λ (l : List Entry). (at ≡ 0) ⊎ (is_gt (place_cmp (nth l 0).0 (store_place w)) ≡ false)) (sym is) by)

    is_next : nth_leaf now (at + 1) ≡ nth_leaf leaves (at + 1)
    is_next = nth_later now leaves from (at + 1) (omega (arith, le)) same

    edits_below : (vs : List BodyEdit) → AreBefore leaves (at + 1) vs → AreEditsBelow vs back
    edits_below [] h = tt
    edits_below (v ∷ vs) h = (
      leaves_behind now (at + 1) (store_place v) (omega (arith, there)) (λ more. subst (λ (l : List Entry). 0 < length l) (sym is_next) (are.full (at + 1) [] (omega (arith, more, long)))) sorted
          (⊎_elim (λ e. inl (e ∙ sym long)) (λ g. inr (ap (λ (l : List Entry). is_gt (place_cmp (nth l 0).0 (store_place v))) is_next ∙ g)) h.0),
      edits_below vs h.1,
    )

-- a single edit
pub patch_one : (leaves : List (List Entry)) (at : ℕ) (w : BodyEdit) (p : StorePlace) (made : List Entry) → AreLeaves leaves → at < length leaves → p ≡ store_place w → BeginsBy leaves at p → BeginsBehind leaves (at + 1) p
    → EditsBehindKeep → EditsBeforeKeep → made ≡ edited (nth_leaf leaves at) w → flat (slice_set leaves at made) ≡ edited (flat leaves) w
patch_one leaves at w p made are less is by behind behind_keep before_keep makes =
    ap (λ (m : List Entry). flat (slice_set leaves at m)) makes
    ∙ patch_leaf leaves leaves 0 at w [] are refl are.rise refl (omega arith) less (subst (BeginsBy leaves at) is by) (subst (BeginsBehind leaves (at + 1)) is behind, tt) (tt, tt) behind_keep before_keep

pub patch_more : (leaves now : List (List Entry)) (from at count : ℕ) (w : BodyEdit) (ws vs : List BodyEdit) (made : List Entry) (end : List Entry) → AreLeaves leaves → length now ≡ length leaves → T (is_sorted place_cmp (flat now)) → drop from now ≡ drop from leaves
    → from ≤ at → at < length leaves → BeginsBy leaves at (store_place w) → ws ≡ w ∷ vs → 0 < count → AreBefore leaves (at + 1) (take count ws) → Rise (take count ws) → EditsBehindKeep → EditsBeforeKeep → made ≡ fold edited (nth_leaf leaves at) (take count ws) → fold edited (flat now) ws ≡ end
    → (flat (slice_set now at made) ≡ fold edited (flat now) (take count ws)) × (fold edited (flat (slice_set now at made)) (drop count ws) ≡ end)
patch_more leaves now from at zero w ws vs made end are long sorted same le less by is some before rise behind_keep before_keep makes was = absurd (omega (arith, some))
patch_more leaves now from at (suc n) w ws vs made end are long sorted same le less by is some before rise behind_keep before_keep makes was =
    let first : take (suc n) ws ≡ w ∷ take n vs = ap (take (suc n)) is in
    let one : flat (slice_set now at made) ≡ fold edited (flat now) (take (suc n) ws) =
    ap (λ (m : List Entry). flat (slice_set now at m)) (makes ∙ ap (fold edited (nth_leaf leaves at)) first)
    ∙ patch_leaf leaves now from at w (take n vs) are long sorted same le less by (subst (AreBefore leaves (at + 1)) first before) (subst Rise first rise) behind_keep before_keep
    ∙ ap (fold edited (flat now)) (sym first) in
    (one, ap (λ (es : List Entry). fold edited es (drop (suc n) ws)) one ∙ sym (fold_both (flat now) (take (suc n) ws) (drop (suc n) ws)) ∙ ap (fold edited (flat now)) (take-append-drop (suc n) ws) ∙ was)

-- a list of one
pub only_one : {X : Type 0} (xs : List X) (x : X) → length xs ≡ 1 → slice_get xs 0 ≡ Some x → x ∷ [] ≡ xs
only_one [] x one is = absurd (omega (arith, one))
only_one (y ∷ []) x one is = ap (λ z. z ∷ []) (sym (same_Some y x is))
only_one (y ∷ z ∷ xs) x one is = absurd (omega (arith, one))

-- where the next edit's leaf may be looked for
pub reach_begins : (leaves : List (List Entry)) (from : ℕ) (ws vs : List BodyEdit) (w : BodyEdit) → 0 < length leaves → ws ≡ w ∷ vs → (from ≡ 0) ⊎ ReachLeaf leaves from ws → (from < length leaves) × BeginsBy leaves from (store_place w)
reach_begins leaves from ws vs w some is = λ h. ⊎_elim (λ e. (omega (arith, e, some), inl e)) (λ r. let reach : ReachLeaf leaves from (w ∷ vs) = subst (ReachLeaf leaves from) is r in (reach.0, inr reach.1)) h

-- ---- leaves that go, and leaves that are cut

pub flat_filter : (leaves : List (List Entry)) → flat (filter (λ (leaf : List Entry). nat_lt 0 (length leaf)) leaves) ≡ flat leaves
flat_filter [] = refl
flat_filter ([] ∷ ls) = flat_filter ls
flat_filter ((e ∷ es) ∷ ls) =
    let rest = filter (λ (leaf : List Entry). nat_lt 0 (length leaf)) ls in
    ap (λ b. flat (cond b ((e ∷ es) ∷ rest) rest)) (lt-ltb 0 (length (e ∷ es)) (omega arith)) ∙ ap (λ (zs : List Entry). (e ∷ es) ++ zs) (flat_filter ls)

pub full_set : (leaves : List (List Entry)) (at : ℕ) (leaf : List Entry) → All (λ leaf. 0 < length leaf) leaves → 0 < length leaf → All (λ leaf. 0 < length leaf) (slice_set leaves at leaf)
full_set [] at leaf full some k d h = full k d h
full_set (l ∷ ls) zero leaf full some zero d h = some
full_set (l ∷ ls) zero leaf full some (suc k) d h = full (suc k) d h
full_set (l ∷ ls) (suc at) leaf full some zero d h = full 0 d (omega arith)
full_set (l ∷ ls) (suc at) leaf full some (suc k) d h = full_set ls at leaf (λ j e m. full (suc j) e (omega (arith, m))) some k d (omega (arith, h))

pub full_patched : (patches : List Patch) (leaves : List (List Entry)) → All (λ leaf. 0 < length leaf) leaves → All (λ (patch : Patch). 0 < length patch.change.1) patches → All (λ leaf. 0 < length leaf) (patched leaves patches)
full_patched [] leaves full some = full
full_patched (p ∷ ps) leaves full some = full_patched ps (slice_set leaves p.at p.change.1) (full_set leaves p.at p.change.1 full (some 0 p (omega arith))) (λ k d h. some (suc k) d (omega (arith, h)))

pub in_table_append : (t : ℤ) (xs ys : List Entry) → in_table t (xs ++ ys) ≡ in_table t xs ++ in_table t ys
in_table_append t [] ys = refl
in_table_append t (x ∷ xs) ys = elim (int_eq x.0.0 t) as (λ b. map (λ (e : Entry). (e.0.1, e.1)) (cond b (x ∷ filter (λ (e : Entry). int_eq e.0.0 t) (xs ++ ys)) (filter (λ (e : Entry). int_eq e.0.0 t) (xs ++ ys)))
    ≡ map (λ (e : Entry). (e.0.1, e.1)) (cond b (x ∷ filter (λ (e : Entry). int_eq e.0.0 t) xs) (filter (λ (e : Entry). int_eq e.0.0 t) xs)) ++ in_table t ys) [
      | true ↦ ap (λ (zs : List (List ℕ × List ℕ)). (x.0.1, x.1) ∷ zs) (in_table_append t xs ys)
      | false ↦ in_table_append t xs ys
    ]

pub all_first : {X : Type 0} (P : X → Type 0) (x : X) (xs : List X) → P x → All P xs → All P (x ∷ xs)
all_first P x xs one each zero d less = one
all_first P x xs one each (suc k) d less = each k d (omega (arith, less))

pub patches_left : (leaves : List (List Entry)) (patches rest : List Patch) (patch : Patch) (end : List (List Entry)) → patches ≡ patch ∷ rest → ArePatches (length leaves) patches → patched leaves patches ≡ end
    → ArePatches (length (slice_set leaves patch.at patch.change.1)) rest × (patched (slice_set leaves patch.at patch.change.1) rest ≡ end)
patches_left leaves patches rest patch end is are was =
    let all : ArePatches (length leaves) (patch ∷ rest) = subst (ArePatches (length leaves)) is are in
    (λ k d h. let l = length_set leaves patch.at patch.change.1 in let m : (get_or rest k d).at < length leaves = all (suc k) d (omega (arith, h)) in omega (arith, l, m), ap (patched leaves) (sym is) ∙ was)

map_same : {X : Type 0} (xs : List X) → map (λ x. x) xs ≡ xs
map_same [] = refl
map_same (x ∷ xs) = ap (λ ys. x ∷ ys) (map_same xs)

-- what an iterator over a vector gives is what the vector has
pub drained : {A Z : Type 0} (s : IntoIter A Z) (xs items : List A) → Drains (into_iter_steps {X = A} {Z = Z}) s xs → into_iter_items s ≡ items → into_iter_len s ≡ length items → xs ≡ items
drained s xs items d is long = sym (map_same xs) ∙ items_from_drains xs (d.1.0, d.1.1, λ _. (d.0, d.1.2)) (YieldsList-from_vec items is long)

-- a leaf that is cut
pub flat_spliced : (leaves pieces new : List (List Entry)) (at : ℕ) → at < length leaves → new ≡ splice leaves at (at + 1) pieces → flat pieces ≡ nth_leaf leaves at → flat new ≡ flat leaves
flat_spliced leaves pieces new at less is same =
    ap flat is ∙ flat_append (take at leaves) (pieces ++ drop (at + 1) leaves) ∙ ap (λ (zs : List Entry). flat (take at leaves) ++ zs) (flat_append pieces (drop (at + 1) leaves) ∙ ap (λ (zs : List Entry). zs ++ flat (drop (at + 1) leaves)) same)
    ∙ sym (flat_split leaves at less)

pub full_spliced : (leaves pieces new : List (List Entry)) (at : ℕ) → new ≡ splice leaves at (at + 1) pieces → All (λ leaf. 0 < length leaf) pieces → All (λ leaf. 0 < length leaf) leaves → All (λ leaf. 0 < length leaf) new
full_spliced leaves pieces new at is some full =
    subst (All (λ leaf. 0 < length leaf)) (sym is) (All-append (λ leaf. 0 < length leaf) (take at leaves) (pieces ++ drop (at + 1) leaves) (All-take (λ leaf. 0 < length leaf) at leaves full)
    (All-append (λ leaf. 0 < length leaf) pieces (drop (at + 1) leaves) some (All-drop (λ leaf. 0 < length leaf) (at + 1) leaves full)))

-- a leaf that is moved behind those that were, of all
pub moved : (cut new before rest : List (List Entry)) (leaf all : List Entry) → before ≡ leaf ∷ rest → flat new ≡ flat cut ++ leaf → flat cut ++ flat before ≡ all → flat new ++ flat rest ≡ all
moved cut new before rest leaf all first made was = ap (λ (zs : List Entry). zs ++ flat rest) made ∙ append_assoc (flat cut) leaf (flat rest) ∙ ap (λ (ls : List (List Entry)). flat cut ++ flat ls) (sym first) ∙ was

pub moved_full : (cut new before rest : List (List Entry)) (leaf : List Entry) → before ≡ leaf ∷ rest → (0 < length leaf → All (λ leaf. 0 < length leaf) cut → All (λ leaf. 0 < length leaf) new)
    → All (λ leaf. 0 < length leaf) cut × All (λ leaf. 0 < length leaf) before → All (λ leaf. 0 < length leaf) new × All (λ leaf. 0 < length leaf) rest
moved_full cut new before rest leaf first made was =
    let full : All (λ leaf. 0 < length leaf) (leaf ∷ rest) = subst (All (λ leaf. 0 < length leaf)) first was.1 in
    (made (full 0 [] (omega arith)) was.0, λ k d h. full (suc k) d (omega (arith, h)))

pub rest_of : {X : Type 0} (xs : List X) (start : ℕ) → take (length xs - start) (drop start xs) ≡ drop start xs
rest_of xs start = take_all (length xs - start) (drop start xs) (omega (arith, length-drop start xs))

pub none_in : (leaves : List (List Entry)) (p : StorePlace) → length leaves ≡ 0 → get (bodies_in leaves) p ≡ None
none_in [] p e = get-from_sorted place_cmp [] p tt
none_in (l ∷ ls) p e = absurd (omega (arith, e))
