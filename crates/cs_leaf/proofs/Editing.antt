-- What an edit makes of entries whose places rise.
use Rattle.std.proofs.Common.{◌≡◌, ℕ, zero, suc, ◌+◌, ◌-◌, ◌<◌, ◌≤◌, ◌⊎◌, inl, inr, Bool, true, false, cond, not, ◌&&◌, List, [], ◌∷◌, ◌++◌, Option, Some, None, refl, sym, ap, subst, ◌∙◌, T, length, get_or, take, drop, fold, arith, ⊎_elim}
use Rattle.std.proofs.Math.Dec.{ltb}
use borrow.Author.Tests.{ltb-true, ltb-false, lt-ltb}
use Rattle.std.specs.declared.cmp.Ordering.{Ordering}
use Rattle.std.specs.declared.cmp.Ordering.TheVariants.{Less, Equal, Greater}
use Rattle.std.specs.Ordering.{is_eq, is_lt, eq_by_cmp, ordering_reverse}
use Rattle.std.specs.Cmp.{eq_by_cmp_equiv, alike_right}
use Rattle.std.specs.List.{slice_range}
use Rattle.std.proofs.lemmas.List.{length-drop, drop_more, get_or-drop, take-append-drop, drop_all, append-nil, append_assoc}
use Rattle.std.proofs.lemmas.List.Folds.{drop_split}
use Rattle.std.specs.FinMap.{find, from_sorted, is_sorted, get-from_sorted, same_map}
use Rattle.std.specs.FinMap.Entries.{put, below_all, by_order, is_sorted-put, is_sorted-where_key, find-put, find-where_key}
use Rattle.cs_store.specs.Contents.{StorePlace, Bodies, place_cmp}
use Rattle.cs_store.specs.Written.{with_body, edit_body}
use Rattle.cs_leaf.specs.Entries.{Entry, no_entry, nth, written, IsPlaceFor}
use Rattle.cs_leaf.specs.Edits.{put_row, store_place, edited, AreBelow, AreEditsAbove, AreEditsBelow, IsBehind, IsMerged}
use Rattle.cs_store.specs.edits.Edits.{BodyEdit}
use Rattle.cs_leaf.proofs.Places.{place_total, place_exact, get-with_body}

pub first : (a b : Bool) → T (a && b) → T a
first true b h = tt
first false b h = absurd h

pub second : (a b : Bool) → T (a && b) → T b
second true b h = h
second false b h = absurd h

pub both : (a b : Bool) → T a → T b → T (a && b)
both true b p q = q
both false b p q = p

pub less : (o : Ordering) → T (is_lt o) → o ≡ Less
less Less h = refl
less Equal h = absurd h
less Greater h = absurd h

pub is_less : (o : Ordering) → o ≡ Less → T (is_lt o)
is_less o h = subst (λ r. T (is_lt r)) (sym h) tt

greater : (p q : StorePlace) → place_cmp q p ≡ Less → place_cmp p q ≡ Greater
greater p q h = place_total.antisymm p q ∙ ap ordering_reverse h

-- ---- one edit

pub put_behind : (xs ys : List Entry) (p : StorePlace) (w : Option (List ℕ)) → AreBelow xs p → put_row (xs ++ ys) p w ≡ xs ++ put_row ys p w
put_behind [] ys p w h = refl
put_behind (x ∷ xs) ys p None h =
    ap (λ o. cond (not (is_eq o)) (x ∷ put_row (xs ++ ys) p None) (put_row (xs ++ ys) p None)) (greater p x.0 h.0)
    ∙ ap (λ (zs : List Entry). x ∷ zs) (put_behind xs ys p None h.1)
put_behind (x ∷ xs) ys p (Some v) h =
    ap (λ o. by_order o ((p, v) ∷ x ∷ (xs ++ ys)) ((x.0, v) ∷ (xs ++ ys)) (x ∷ put place_cmp p v (xs ++ ys))) (greater p x.0 h.0)
    ∙ ap (λ (zs : List Entry). x ∷ zs) (put_behind xs ys p (Some v) h.1)

pub remove_above : (ys : List Entry) (p : StorePlace) → T (below_all place_cmp p ys) → put_row ys p None ≡ ys
remove_above [] p h = refl
remove_above (y ∷ ys) p h =
    ap (λ o. cond (not (is_eq o)) (y ∷ put_row ys p None) (put_row ys p None)) (less _ (first _ _ h))
    ∙ ap (λ (zs : List Entry). y ∷ zs) (remove_above ys p (second _ _ h))

pub put_before : (xs ys : List Entry) (p : StorePlace) (w : Option (List ℕ)) → T (below_all place_cmp p ys) → put_row (xs ++ ys) p w ≡ put_row xs p w ++ ys
put_before [] ys p None h = remove_above ys p h
put_before [] [] p (Some v) h = refl
put_before [] (y ∷ ys) p (Some v) h = ap (λ o. by_order o ((p, v) ∷ y ∷ ys) ((y.0, v) ∷ ys) (y ∷ put place_cmp p v ys)) (less _ (first _ _ h))
put_before (x ∷ xs) ys p None h =
    let rest = put_before xs ys p None h in
    elim (eq_by_cmp place_cmp p x.0) as (λ b. cond (not b) (x ∷ put_row (xs ++ ys) p None) (put_row (xs ++ ys) p None) ≡ cond (not b) (x ∷ put_row xs p None) (put_row xs p None) ++ ys) [
      | true ↦ rest
      | false ↦ ap (λ (zs : List Entry). x ∷ zs) rest
    ]
put_before (x ∷ xs) ys p (Some v) h =
    let rest = put_before xs ys p (Some v) h in
    elim (place_cmp p x.0) as (λ o. by_order o ((p, v) ∷ x ∷ (xs ++ ys)) ((x.0, v) ∷ (xs ++ ys)) (x ∷ put place_cmp p v (xs ++ ys))
    ≡ by_order o ((p, v) ∷ x ∷ xs) ((x.0, v) ∷ xs) (x ∷ put place_cmp p v xs) ++ ys) [
      | Less ↦ refl
      | Equal ↦ refl
      | Greater ↦ ap (λ (zs : List Entry). x ∷ zs) rest
    ]

-- ---- edits

pub fold_behind : (ws : List BodyEdit) (xs ys : List Entry) → AreEditsAbove xs ws → fold edited (xs ++ ys) ws ≡ xs ++ fold edited ys ws
fold_behind [] xs ys h = refl
fold_behind (w ∷ ws) xs ys h = ap (λ es. fold edited es ws) (put_behind xs ys (store_place w) w.body h.0) ∙ fold_behind ws xs (edited ys w) h.1

pub fold_before : (ws : List BodyEdit) (xs ys : List Entry) → AreEditsBelow ws ys → fold edited (xs ++ ys) ws ≡ fold edited xs ws ++ ys
fold_before [] xs ys h = refl
fold_before (w ∷ ws) xs ys h = ap (λ es. fold edited es ws) (put_before xs ys (store_place w) w.body h.0) ∙ fold_before ws (edited xs w) ys h.1

-- ---- places that rise

pub sorted_back : (xs ys : List Entry) → T (is_sorted place_cmp (xs ++ ys)) → T (is_sorted place_cmp ys)
sorted_back [] ys h = h
sorted_back (x ∷ xs) ys h = sorted_back xs ys (second _ _ h)

pub below_less : (xs : List Entry) (f p : StorePlace) → place_cmp f p ≡ Less → AreBelow xs f → AreBelow xs p
below_less [] f p l h = tt
below_less (x ∷ xs) f p l h = (place_total.trans x.0 f p h.0 l, below_less xs f p l h.1)

pub above_less : (ys : List Entry) (p f : StorePlace) → place_cmp p f ≡ Less → T (below_all place_cmp f ys) → T (below_all place_cmp p ys)
above_less [] p f l h = tt
above_less (y ∷ ys) p f l h = both _ _ (is_less _ (place_total.trans p f y.0 l (less _ (first _ _ h)))) (above_less ys p f l (second _ _ h))

pub below_append : (xs ys : List Entry) (p : StorePlace) → AreBelow xs p → AreBelow ys p → AreBelow (xs ++ ys) p
below_append [] ys p a b = b
below_append (x ∷ xs) ys p a b = (a.0, below_append xs ys p a.1 b)

below_nth : (x : StorePlace) (ys : List Entry) (n : ℕ) (d : Entry) → n < length ys → T (below_all place_cmp x ys) → place_cmp x (get_or ys n d).0 ≡ Less
below_nth x [] n d h b = absurd (omega (arith, h))
below_nth x (y ∷ ys) zero d h b = less _ (first _ _ b)
below_nth x (y ∷ ys) (suc n) d h b = below_nth x ys n d (omega (arith, h)) (second _ _ b)

rises_at : (es : List Entry) (k : ℕ) (d : Entry) → suc k < length es → T (is_sorted place_cmp es) → place_cmp (get_or es k d).0 (get_or es (suc k) d).0 ≡ Less
rises_at [] k d h s = absurd (omega (arith, h))
rises_at (e ∷ es) zero d h s = below_nth e.0 es 0 d (omega (arith, h)) (first _ _ s)
rises_at (e ∷ es) (suc k) d h s = rises_at es k d (omega (arith, h)) (second _ _ s)

-- a place stands where it is met
pub stands_at : (es : List Entry) (at : ℕ) (p : StorePlace) → at < length es → T (is_sorted place_cmp es) → place_cmp (nth es at).0 p ≡ Equal → IsPlaceFor es 0 at p
stands_at es zero p h s e = (inl refl, inr (ap is_lt e))
stands_at es (suc k) p h s e =
    let n : suc k - 1 ≡ k = omega arith in
    let less : place_cmp (nth es (suc k - 1)).0 p ≡ Less = ap (λ j. place_cmp (nth es j).0 p) n ∙ ap (place_cmp (nth es k).0) (sym (place_exact (nth es (suc k)).0 p e)) ∙ rises_at es k no_entry h s in
    (inr (ap is_lt less), inr (ap is_lt e))

below_up_to : (ys : List Entry) (n : ℕ) (d : Entry) (p : StorePlace) → n < length ys → T (is_sorted place_cmp ys) → place_cmp (get_or ys n d).0 p ≡ Less → AreBelow (take (suc n) ys) p
below_up_to [] n d p h s l = absurd (omega (arith, h))
below_up_to (y ∷ ys) zero d p h s l = (l, tt)
below_up_to (y ∷ ys) (suc n) d p h s l =
    let m : n < length ys = omega (arith, h) in
    (place_total.trans y.0 (get_or ys n d).0 p (below_nth y.0 ys n d m (first _ _ s)) l, below_up_to ys n d p m (second _ _ s) l)

-- ---- what maps see

sorted_put : (es : List Entry) (p : StorePlace) (w : Option (List ℕ)) → T (is_sorted place_cmp es) → T (is_sorted place_cmp (put_row es p w))
sorted_put es p None h = is_sorted-where_key place_cmp (λ q. not (eq_by_cmp place_cmp p q)) es h
sorted_put es p (Some v) h = is_sorted-put place_cmp place_total p v es h

pub sorted_edits : (ws : List BodyEdit) (es : List Entry) → T (is_sorted place_cmp es) → T (is_sorted place_cmp (fold edited es ws))
sorted_edits [] es h = h
sorted_edits (w ∷ ws) es h = sorted_edits ws (edited es w) (sorted_put es (store_place w) w.body h)

turned : {A : Type 0} (b : Bool) (x y : A) → cond (not b) x y ≡ cond b y x
turned true x y = refl
turned false x y = refl

find_put_row : (es : List Entry) (p : StorePlace) (w : Option (List ℕ)) (q : StorePlace) → find place_cmp q (put_row es p w) ≡ cond (eq_by_cmp place_cmp q p) w (find place_cmp q es)
find_put_row es p None q =
    find-where_key place_cmp (λ x. not (eq_by_cmp place_cmp p x)) q (λ x t. ap (λ r. not (is_eq r)) (sym (alike_right place_total q x p t))) es
    ∙ turned (eq_by_cmp place_cmp p q) _ _ ∙ ap (λ b. cond b None (find place_cmp q es)) ((eq_by_cmp_equiv place_total).symm p q)
find_put_row es p (Some v) q = find-put place_cmp place_total q p v es

rows_put : (es : List Entry) (p : StorePlace) (w : Option (List ℕ)) → T (is_sorted place_cmp es) → ◌≡◌ {A = Bodies} (from_sorted (put_row es p w)) (with_body (from_sorted es) p w)
rows_put es p w h = same_map place_total place_exact _ _ (λ q.
    get-from_sorted place_cmp (put_row es p w) q (sorted_put es p w h) ∙ find_put_row es p w q
    ∙ sym (get-with_body (from_sorted es) p w q ∙ ap (cond (eq_by_cmp place_cmp q p) w) (get-from_sorted place_cmp es q h)))

pub rows_edited : (ws : List BodyEdit) (es : List Entry) → T (is_sorted place_cmp es) → ◌≡◌ {A = Bodies} (from_sorted (fold edited es ws)) (fold edit_body (from_sorted es) ws)
rows_edited [] es h = refl
rows_edited (w ∷ ws) es h = rows_edited ws (edited es w) (sorted_put es (store_place w) w.body h) ∙ ap (λ m. fold edit_body m ws) (rows_put es (store_place w) w.body h)

-- ---- an edit that is merged

-- what a search found
pub run_below : (es : List Entry) (from at : ℕ) (p : StorePlace) → from ≤ at → at ≤ length es → T (is_sorted place_cmp es) → IsPlaceFor es from at p → AreBelow (slice_range es from at) p
run_below es from at p le within s found = ⊎_elim none some found.0
  where
    none : at ≡ from → AreBelow (slice_range es from at) p
    none e = let z : at - from ≡ 0 = omega (arith, e) in subst (λ n. AreBelow (take n (drop from es)) p) (sym z) tt

    some : is_lt (place_cmp (nth es (at - 1)).0 p) ≡ true → AreBelow (slice_range es from at) p
    some l = elim (at - from) as (λ n. at - from ≡ n → AreBelow (take n (drop from es)) p) [
      | zero ↦ λ e. tt
      | suc n ↦ λ e.
          let m : from + n ≡ at - 1 = omega (arith, e, le) in
          let long : n < length (drop from es) = omega (arith, e, within, le, length-drop from es) in
          below_up_to (drop from es) n no_entry p long
          (sorted_back (take from es) (drop from es) (subst (λ zs. T (is_sorted place_cmp zs)) (sym (take-append-drop from es)) s))
          (less _ (subst T (sym (ap (λ (e : Entry). is_lt (place_cmp e.0 p)) (get_or-drop from es n no_entry ∙ ap (λ k. get_or es k no_entry) m) ∙ l)) tt))
    ] refl

pub not_both : (o : Ordering) → is_lt o ≡ false → is_eq o ≡ false → o ≡ Greater
not_both Less a b = absurd cc
not_both Equal a b = absurd cc
not_both Greater a b = refl

-- the entries from where the place stands or would stand
put_here : (z : Entry) (zs : List Entry) (p : StorePlace) (w : Option (List ℕ)) → T (is_sorted place_cmp (z ∷ zs)) → place_cmp z.0 p ≡ Equal → put_row (z ∷ zs) p w ≡ written p w ++ zs
put_here z zs p None s e =
    let same : z.0 ≡ p = place_exact z.0 p e in
    ap (λ b. cond (not b) (z ∷ put_row zs p None) (put_row zs p None)) (ap (eq_by_cmp place_cmp p) same ∙ (eq_by_cmp_equiv place_total).refl p)
    ∙ remove_above zs p (subst (λ q. T (below_all place_cmp q zs)) same (first _ _ s))
put_here z zs p (Some v) s e =
    let same : z.0 ≡ p = place_exact z.0 p e in
    ap (λ o. by_order o ((p, v) ∷ z ∷ zs) ((z.0, v) ∷ zs) (z ∷ put place_cmp p v zs)) (ap (place_cmp p) same ∙ tied p) ∙ ap (λ (q : StorePlace). (q, v) ∷ zs) same
  where
    equal : (o : Ordering) → is_eq o ≡ true → o ≡ Equal
    equal Less h = absurd cc
    equal Equal h = refl
    equal Greater h = absurd cc

    tied : (q : StorePlace) → place_cmp q q ≡ Equal
    tied q = equal _ ((eq_by_cmp_equiv place_total).refl q)

put_nothing : (p : StorePlace) (w : Option (List ℕ)) → put_row [] p w ≡ written p w ++ []
put_nothing p None = refl
put_nothing p (Some v) = refl

put_new : (zs : List Entry) (p : StorePlace) (w : Option (List ℕ)) → T (below_all place_cmp p zs) → put_row zs p w ≡ written p w ++ zs
put_new zs p w h = put_before [] zs p w h ∙ ap (λ (ys : List Entry). ys ++ zs) (put_nothing p w ∙ append-nil (written p w))

pub above_head : (z : Entry) (zs : List Entry) (p : StorePlace) → T (is_sorted place_cmp (z ∷ zs)) → place_cmp z.0 p ≡ Greater → T (below_all place_cmp p (z ∷ zs))
above_head z zs p s g =
    let l : place_cmp p z.0 ≡ Less = place_total.antisymm p z.0 ∙ ap ordering_reverse g in
    both _ _ (is_less _ l) (above_less zs p z.0 l (first _ _ s))

pub put_at : (es : List Entry) (at next : ℕ) (p : StorePlace) (w : Option (List ℕ)) → at ≤ length es → T (is_sorted place_cmp es)
    → (at ≡ length es) ⊎ (is_lt (place_cmp (nth es at).0 p) ≡ false) → IsBehind es at p next → put_row (drop at es) p w ≡ written p w ++ drop next es
put_at es at next p w within s notless behind = ⊎_elim there gone behind
  where
    cut : T (is_sorted place_cmp (drop at es))
    cut = sorted_back (take at es) (drop at es) (subst (λ zs. T (is_sorted place_cmp zs)) (sym (take-append-drop at es)) s)

    head : at < length es → drop at es ≡ nth es at ∷ drop (at + 1) es
    head l = drop_more es at no_entry l

    there : (next ≡ at + 1) × (at < length es) × (place_cmp (nth es at).0 p ≡ Equal) → put_row (drop at es) p w ≡ written p w ++ drop next es
    there h = ap (λ zs. put_row zs p w) (head h.1) ∙ put_here (nth es at) (drop (at + 1) es) p w (subst (λ zs. T (is_sorted place_cmp zs)) (head h.1) cut) h.2
        ∙ ap (λ k. written p w ++ drop k es) (sym h.0)

    end : next ≡ at → at ≡ length es → put_row (drop at es) p w ≡ written p w ++ drop next es
    end n e = put_new (drop at es) p w (subst (λ zs. T (below_all place_cmp p zs)) (sym (drop_all at es (omega (arith, e)))) tt) ∙ ap (λ k. written p w ++ drop k es) (sym n)

    gone : (next ≡ at) × ((at ≡ length es) ⊎ (is_eq (place_cmp (nth es at).0 p) ≡ false)) → put_row (drop at es) p w ≡ written p w ++ drop next es
    gone h = ⊎_elim (λ e. end h.0 e) (λ neq. ⊎_elim (λ e. end h.0 e) (λ nlt. elim (ltb at (length es)) as (λ b. ltb at (length es) ≡ b → put_row (drop at es) p w ≡ written p w ++ drop next es) [
      | false ↦ λ e. end h.0 (omega (arith, within, ltb-false at (length es) e))
      | true ↦ λ e.
          let l : at < length es = ltb-true at (length es) e in
          put_new (drop at es) p w (subst (λ zs. T (below_all place_cmp p zs)) (sym (head l))
          (above_head (nth es at) (drop (at + 1) es) p (subst (λ zs. T (is_sorted place_cmp zs)) (head l) cut) (not_both _ nlt neq)))
          ∙ ap (λ k. written p w ++ drop k es) (sym h.0)
    ] refl) notless) h.1

written_below : (p q : StorePlace) (w : Option (List ℕ)) → place_cmp p q ≡ Less → AreBelow (written p w) q
written_below p q None l = tt
written_below p q (Some v) l = (l, tt)

pub merged_edit : (es before between after : List Entry) (from at next : ℕ) (edit : BodyEdit) → from ≤ at → at ≤ length es → T (is_sorted place_cmp es)
    → IsPlaceFor es from at (store_place edit) → IsBehind es at (store_place edit) next
    → between ≡ before ++ slice_range es from at → after ≡ between ++ written (store_place edit) edit.body → IsMerged es from edit next before after
merged_edit es before between after from at next edit le within s found behind ran wrote =
    let p = store_place edit in
    let w = edit.body in
    let run = slice_range es from at in
    let low = run_below es from at p le within s found in
    record {
      more = run ++ written p w;
      pushed = wrote ∙ ap (λ (zs : List Entry). zs ++ written p w) ran ∙ append_assoc before run (written p w);
      same = ap (λ zs. put_row zs p w) (drop_split es from at le) ∙ put_behind run (drop at es) p w low
          ∙ ap (λ (zs : List Entry). run ++ zs) (put_at es at next p w within s found.1 behind) ∙ sym (append_assoc run (written p w) (drop next es));
      below = λ q l. below_append run (written p w) q (below_less run p q l low) (written_below p q w l);
    }

-- what an edit makes of entries, where its place stands or would stand at `at`
pub edited_at : (es : List Entry) (at next : ℕ) (w : BodyEdit) (p : StorePlace) → p ≡ store_place w → at ≤ length es → T (is_sorted place_cmp es) → IsPlaceFor es 0 at p → IsBehind es at p next
    → edited es w ≡ take at es ++ (written p w.body ++ drop next es)
edited_at es at next w p its within s found behind =
    let n : at - 0 ≡ at = omega arith in
    let low : AreBelow (take at es) p = subst (λ k. AreBelow (take k es) p) n (run_below es 0 at p (omega arith) within s found) in
    ap (λ (q : StorePlace). put_row es q w.body) (sym its)
    ∙ ap (λ (zs : List Entry). put_row zs p w.body) (sym (take-append-drop at es)) ∙ put_behind (take at es) (drop at es) p w.body low
    ∙ ap (λ (zs : List Entry). take at es ++ zs) (put_at es at next p w.body within s found.1 behind)

-- whether something is there tells where entries go on
pub goes_on : (es : List Entry) (at next : ℕ) (p : StorePlace) → IsBehind es at p next → (ltb at next ≡ true → at < length es) × (cond (ltb at next) (at + 1) at ≡ next)
goes_on es at next p behind = ⊎_elim there gone behind
  where
    there : (next ≡ at + 1) × (at < length es) × (place_cmp (nth es at).0 p ≡ Equal) → (ltb at next ≡ true → at < length es) × (cond (ltb at next) (at + 1) at ≡ next)
    there h = (λ _. h.1, ap (λ b. cond b (at + 1) at) (lt-ltb at next (omega (arith, h.0))) ∙ sym h.0)

    gone : (next ≡ at) × ((at ≡ length es) ⊎ (is_eq (place_cmp (nth es at).0 p) ≡ false)) → (ltb at next ≡ true → at < length es) × (cond (ltb at next) (at + 1) at ≡ next)
    gone h = (
      λ e. absurd (let l = ltb-true at next e in omega (arith, h.0, l)),
      elim (ltb at next) as (λ b. ltb at next ≡ b → cond b (at + 1) at ≡ next) [ true ↦ λ e. absurd (let l = ltb-true at next e in omega (arith, h.0, l)) | false ↦ λ e. sym h.0 ] refl,
    )
