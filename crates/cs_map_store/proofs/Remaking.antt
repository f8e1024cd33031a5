-- All leaves, made anew one after another.
use Rattle.std.proofs.Common.{◌≡◌, ℕ, ◌+◌, ◌<◌, ◌⊎◌, List, [], ◌∷◌, ◌++◌, sym, ap, subst, ◌∙◌, T, length, take, drop, fold, arith, ⊎_elim}
use Rattle.std.specs.FinMap.{is_sorted}
use Rattle.std.proofs.lemmas.List.{append_assoc, take-append-drop, drop_more}
use Rattle.cs_store.specs.edits.Edits.{BodyEdit}
use Rattle.cs_store.specs.Contents.{place_cmp}
use Rattle.cs_leaf.specs.Entries.{Entry, nth}
use Rattle.cs_leaf.specs.Edits.{AreBelow, AreEditsAbove, AreEditsBelow, Rise, edited, store_place}
use Rattle.cs_leaf.specs.Laws.{EditsBeforeKeep, EditsBehindKeep, EditsKeepOrder}
use Rattle.cs_map_store.specs.Leaves.{AreBefore, AreLeaves, ReachLeaf, first_place, flat, nth_leaf}
use Rattle.cs_map_store.proofs.Rising.{below_most, below_split}
use Rattle.cs_map_store.proofs.Leafing.{below_edits, fold_both, leaves_behind, some_first}

-- edits before the next leaf are below all that stands from there on
edits_below : (leaves : List (List Entry)) (at : ℕ) (ws : List BodyEdit) → AreLeaves leaves → at < length leaves → AreBefore leaves (at + 1) ws → AreEditsBelow ws (flat (drop (at + 1) leaves))
edits_below leaves at [] are less h = tt
edits_below leaves at (w ∷ ws) are less h = (
  leaves_behind leaves (at + 1) (store_place w) (omega (arith, less)) (λ more. are.full (at + 1) [] more) are.rise h.0,
  edits_below leaves at ws are less h.1,
)

-- what is made is below the first edit of the next leaf
made_below : (leaves : List (List Entry)) (at : ℕ) (made : List Entry) (w : BodyEdit) (ws : List BodyEdit) → AreLeaves leaves → at < length leaves → T (is_sorted place_cmp (made ++ flat (drop at leaves)))
    → (at ≡ 0 → made ≡ []) → (at ≡ 0) ⊎ ReachLeaf leaves at (w ∷ ws) → AreBelow made (store_place w)
made_below leaves at made w ws are less sorted none reach = ⊎_elim (λ e. subst (λ (es : List Entry). AreBelow es (store_place w)) (sym (none e)) tt) (λ r. below_most made (first_place leaves at) (store_place w) r.1 low) reach
  where
    whole : made ++ flat (drop at leaves) ≡ made ++ (nth (nth_leaf leaves at) 0 ∷ (drop 1 (nth_leaf leaves at) ++ flat (drop (at + 1) leaves)))
    whole = ap (λ (ls : List (List Entry)). made ++ flat ls) (drop_more leaves at [] less) ∙ ap (λ (zs : List Entry). made ++ (zs ++ flat (drop (at + 1) leaves))) (some_first (nth_leaf leaves at) (are.full at [] less))

    low : AreBelow made (first_place leaves at)
    low = below_split made (drop 1 (nth_leaf leaves at) ++ flat (drop (at + 1) leaves)) (nth (nth_leaf leaves at) 0) (subst (λ zs. T (is_sorted place_cmp zs)) whole sorted)

-- edits that fall into the next leaf change it alone
leaf_alone : (leaves : List (List Entry)) (at : ℕ) (made : List Entry) (us vs : List BodyEdit) → AreLeaves leaves → at < length leaves → T (is_sorted place_cmp (made ++ flat (drop at leaves)))
    → (at ≡ 0 → made ≡ []) → (at ≡ 0) ⊎ ReachLeaf leaves at (us ++ vs) → AreBefore leaves (at + 1) us → Rise us → EditsBehindKeep → EditsBeforeKeep
    → (made ++ fold edited (nth_leaf leaves at) us) ++ flat (drop (at + 1) leaves) ≡ fold edited (made ++ flat (drop at leaves)) us
leaf_alone leaves at made us vs are less sorted none reach before rise behind_keep before_keep =
    append_assoc made (fold edited leaf us) rest
    ∙ ap (λ (zs : List Entry). made ++ zs) (sym (before_keep us leaf rest (edits_below leaves at us are less before)))
    ∙ sym (behind_keep us made (leaf ++ rest) (above us rise reach))
    ∙ ap (λ (ls : List (List Entry)). fold edited (made ++ flat ls) us) (sym (drop_more leaves at [] less))
  where
    leaf : List Entry
    leaf = nth_leaf leaves at

    rest : List Entry
    rest = flat (drop (at + 1) leaves)

    above : (ws : List BodyEdit) → Rise ws → (at ≡ 0) ⊎ ReachLeaf leaves at (ws ++ vs) → AreEditsAbove made ws
    above [] rises r = tt
    above (w ∷ ws) rises r =
        let low = made_below leaves at made w (ws ++ vs) are less sorted none r in
        (low, below_edits made (store_place w) ws low rises.0)

-- a leaf more is made anew
pub anew_more : (leaves : List (List Entry)) (at count : ℕ) (made new : List Entry) (ws : List BodyEdit) (end : List Entry) → AreLeaves leaves → at < length leaves → T (is_sorted place_cmp (made ++ flat (drop at leaves)))
    → (at ≡ 0 → made ≡ []) → (at ≡ 0) ⊎ ReachLeaf leaves at ws → AreBefore leaves (at + 1) (take count ws) → Rise (take count ws) → EditsBehindKeep → EditsBeforeKeep → EditsKeepOrder
    → new ≡ made ++ fold edited (nth_leaf leaves at) (take count ws) → fold edited (made ++ flat (drop at leaves)) ws ≡ end
    → T (is_sorted place_cmp (new ++ flat (drop (at + 1) leaves))) × (fold edited (new ++ flat (drop (at + 1) leaves)) (drop count ws) ≡ end)
anew_more leaves at count made new ws end are less sorted none reach before rise behind_keep before_keep order is was =
    let whole : take count ws ++ drop count ws ≡ ws = take-append-drop count ws in
    let one : new ++ flat (drop (at + 1) leaves) ≡ fold edited (made ++ flat (drop at leaves)) (take count ws) =
    ap (λ (zs : List Entry). zs ++ flat (drop (at + 1) leaves)) is
    ∙ leaf_alone leaves at made (take count ws) (drop count ws) are less sorted none (subst (λ (us : List BodyEdit). (at ≡ 0) ⊎ ReachLeaf leaves at us) (sym whole) reach) before rise behind_keep before_keep in (
      subst (λ (es : List Entry). T (is_sorted place_cmp es)) (sym one) (order (take count ws) (made ++ flat (drop at leaves)) sorted),
      ap (λ (es : List Entry). fold edited es (drop count ws)) one ∙ sym (fold_both (made ++ flat (drop at leaves)) (take count ws) (drop count ws)) ∙ ap (fold edited (made ++ flat (drop at leaves))) whole ∙ was,
    )
