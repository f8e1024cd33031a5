-- A merge, edit by edit.
use Rattle.std.proofs.Common.{◌≡◌, ℕ, ◌+◌, List, [], ◌∷◌, ◌++◌, Some, sym, ap, subst, ◌∙◌, drop, take, fold, length, arith}
use Rattle.std.specs.List.{slice_get}
use Rattle.std.specs.declared.cmp.Ordering.TheVariants.{Less}
use Rattle.std.proofs.lemmas.List.{append_assoc, drop_more, take-append-drop}
use Rattle.std.proofs.lemmas.Option.{get_or_from_slice_get, same_Some, slice_get_within}
use Rattle.cs_store.specs.Contents.{StorePlace, place_cmp}
use Rattle.cs_store.specs.edits.Edits.{BodyEdit}
use Rattle.cs_leaf.specs.Entries.{Entry}
use Rattle.cs_leaf.specs.Edits.{AreBelow, AreEditsAbove, Follow, IsMerged, Rise, edited, store_place}
use Rattle.cs_leaf.proofs.Editing.{fold_behind}

follow_below : (more : List Entry) (p : StorePlace) (ws : List BodyEdit) → ((q : StorePlace) → place_cmp p q ≡ Less → AreBelow more q) → Follow p ws → AreEditsAbove more ws
follow_below more p [] low h = tt
follow_below more p (w ∷ ws) low h = (low (store_place w) h.0, follow_below more p ws low h.1)

pub merge_more : (before after leaf : List Entry) (from next : ℕ) (w : BodyEdit) (ws all : List BodyEdit) (end : List Entry) → Rise (w ∷ ws) → IsMerged leaf from w next before after
    → before ++ fold edited (drop from leaf) (w ∷ ws) ≡ end → after ++ fold edited (drop next leaf) ws ≡ end
merge_more before after leaf from next w ws all end rise m was =
    ap (λ (zs : List Entry). zs ++ fold edited (drop next leaf) ws) m.pushed ∙ append_assoc before m.more (fold edited (drop next leaf) ws)
    ∙ ap (λ (zs : List Entry). before ++ zs) (sym (fold_behind ws m.more (drop next leaf) (follow_below m.more (store_place w) ws m.below rise.0)))
    ∙ ap (λ (zs : List Entry). before ++ fold edited zs ws) (sym m.same) ∙ was

pub rise_back : (us ws : List BodyEdit) → Rise (us ++ ws) → Rise ws
rise_back [] ws h = h
rise_back (u ∷ us) ws h = rise_back us ws h.1

pub rise_drop : (edits : List BodyEdit) (k : ℕ) → Rise edits → Rise (drop k edits)
rise_drop edits k h = rise_back (take k edits) (drop k edits) (subst Rise (sym (take-append-drop k edits)) h)

-- what stands there, and what follows it
pub drop_here : {X : Type 0} (xs : List X) (k : ℕ) (x : X) → slice_get xs k ≡ Some x → drop k xs ≡ x ∷ drop (k + 1) xs
drop_here xs k x is = drop_more xs k x (slice_get_within xs k x is) ∙ ap (λ y. y ∷ drop (k + 1) xs) (get_or_from_slice_get xs k x x is)

-- a list of one
pub only_one : {X : Type 0} (xs : List X) (x : X) → length xs ≡ 1 → slice_get xs 0 ≡ Some x → x ∷ [] ≡ xs
only_one [] x one is = absurd (omega (arith, one))
only_one (y ∷ []) x one is = ap (λ z. z ∷ []) (sym (same_Some y x is))
only_one (y ∷ z ∷ xs) x one is = absurd (omega (arith, one))
