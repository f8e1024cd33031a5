-- Edits in the order of their places.
use Rattle.std.proofs.Common.{◌≡◌, ℕ, zero, suc, ◌+◌, ◌<◌, ◌≤◌, ◌⊎◌, inl, inr, Bool, true, false, cond, not, ◌&&◌, List, [], ◌∷◌, ◌++◌, Option, Some, None, refl, sym, ap, subst, ◌∙◌, length, get_or, take, drop, fold, filter, arith, ⊎_elim}
use Rattle.cs_store.specs.edits.Edits.{BodyEdit}
use Rattle.std.specs.Prelude.{IfSome, is_some}
use Rattle.std.specs.declared.cmp.Ordering.{Ordering}
use Rattle.std.specs.declared.cmp.Ordering.TheVariants.{Less, Equal, Greater}
use Rattle.std.specs.Ordering.{is_eq, is_lt, eq_by_cmp, ordering_reverse}
use Rattle.std.specs.List.{slice_get}
use Rattle.std.specs.List.Sorted.{IsSortedBy, IsStableBy, ties}
use Rattle.std.specs.FinMap.{get, same_map}
use Rattle.std.proofs.lemmas.List.{append_assoc, append-nil, take-append-drop}
use Rattle.std.proofs.lemmas.Option.{same_Some, slice_get_within}
use Rattle.cs_store.specs.Contents.{StorePlace, Bodies, place_cmp}
use Rattle.cs_store.specs.Written.{edit_body}
use Rattle.cs_leaf.specs.Edits.{Follow, Rise, store_place}
use Rattle.cs_map_store.specs.Leaves.{DontFall, ReachLeaf, is_last_of}
use Rattle.cs_map_store.proofs.Maps.{place_total, place_exact, get-with_body}
use Rattle.cs_map_store.proofs.Leafing.{up_to}

-- ---- the last edit of each place

tied : (o : Ordering) → not (is_eq o) ≡ false → o ≡ Equal
tied Less h = absurd cc
tied Equal h = refl
tied Greater h = absurd cc

below : (p q : StorePlace) → is_lt (place_cmp q p) ≡ false → not (is_eq (place_cmp p q)) ≡ true → place_cmp p q ≡ Less
below p q fall apart = elim (place_cmp p q) as (λ o. place_cmp p q ≡ o → not (is_eq o) ≡ true → o ≡ Less) [
  | Less ↦ λ t h. refl
  | Equal ↦ λ t h. absurd cc
  | Greater ↦ λ t h. let turned : place_cmp q p ≡ Less = place_total.antisymm q p ∙ ap ordering_reverse t in let no : true ≡ false = sym (ap is_lt turned) ∙ fall in absurd cc
] refl apart

follow_push : (p : StorePlace) (es : List BodyEdit) (v w : BodyEdit) → place_cmp (store_place v) (store_place w) ≡ Less → Follow p (es ++ v ∷ []) → Follow p (es ++ v ∷ w ∷ [])
follow_push p [] v w l h = (h.0, (place_total.trans p (store_place v) (store_place w) h.0 l, tt))
follow_push p (e ∷ es) v w l h = (h.0, follow_push p es v w l h.1)

rise_push : (es : List BodyEdit) (v w : BodyEdit) → place_cmp (store_place v) (store_place w) ≡ Less → Rise (es ++ v ∷ []) → Rise (es ++ v ∷ w ∷ [])
rise_push [] v w l h = ((l, tt), (tt, tt))
rise_push (e ∷ es) v w l h = (follow_push (store_place e) es v w l h.0, rise_push es v w l h.1)

pub less_if : (o : Ordering) → is_lt o ≡ true → o ≡ Less
less_if Less h = refl
less_if Equal h = absurd cc
less_if Greater h = absurd cc

pub first_rises : (edits : List BodyEdit) → Rise (take 1 edits)
first_rises [] = tt
first_rises (e ∷ es) = (tt, tt)

-- edits of which each is below the next, and one more
pub rise_more : (edits : List BodyEdit) (k at : ℕ) (v w : BodyEdit) → at ≡ k + 1 → slice_get edits k ≡ Some v → slice_get edits at ≡ Some w → place_cmp (store_place v) (store_place w) ≡ Less → Rise (take at edits) → Rise (take (at + 1) edits)
rise_more edits k at v w next is last below was =
    let front = take k edits in
    let one : take at edits ≡ front ++ v ∷ [] = ap (λ n. take n edits) next ∙ up_to edits k v is in
    let two : take (at + 1) edits ≡ front ++ v ∷ w ∷ [] = up_to edits at w last ∙ ap (λ (es : List BodyEdit). es ++ w ∷ []) one ∙ append_assoc front (v ∷ []) (w ∷ []) in
    subst Rise (sym two) (rise_push front v w below (subst Rise one was))

-- of edits whose places rise each is below the next
rises_there : (edits : List BodyEdit) (k : ℕ) (v w : BodyEdit) → slice_get edits k ≡ Some v → slice_get edits (suc k) ≡ Some w → Rise edits → place_cmp (store_place v) (store_place w) ≡ Less
rises_there [] k v w is next rise = absurd (omega (arith, slice_get_within [] k v is))
rises_there (e ∷ []) zero v w is next rise = absurd (omega (arith, slice_get_within (e ∷ []) 1 w next))
rises_there (e ∷ f ∷ es) zero v w is next rise = (λ i. place_cmp (store_place (sym (same_Some e v is) i)) (store_place (sym (same_Some f w next) i))) ∙ rise.0.0
rises_there (e ∷ es) (suc k) v w is next rise = rises_there es k v w is next rise.1

pub falls_there : (edits : List BodyEdit) (k at : ℕ) (v w : BodyEdit) → at ≡ k + 1 → slice_get edits k ≡ Some v → slice_get edits at ≡ Some w → is_lt (place_cmp (store_place v) (store_place w)) ≡ false → Rise edits → ⊥
falls_there edits k at v w next is last fall rise =
    let n : at ≡ suc k = omega (arith, next) in
    let no : true ≡ false = sym (ap is_lt (rises_there edits k v w is (ap (slice_get edits) (sym n) ∙ last) rise)) ∙ fall in
    absurd cc

pub few_rise : (edits : List BodyEdit) → length edits ≤ 1 → Rise edits
few_rise [] few = tt
few_rise (e ∷ []) few = (tt, tt)
few_rise (e ∷ f ∷ es) few = absurd (omega (arith, few))

-- edits of which those rise that are before the end of no leaves
pub all_rise : (edits : List BodyEdit) (found : Option ℕ) → IfSome found (λ count. ReachLeaf [] 0 (drop count edits)) → IfSome found (λ count. Rise (take count edits)) → is_some found ≡ true → Rise edits
all_rise edits None behind rise some = absurd cc
all_rise edits (Some count) behind rise some = subst Rise (sym (append-nil (take count edits)) ∙ ap (λ (es : List BodyEdit). take count edits ++ es) (sym (none (drop count edits) behind)) ∙ take-append-drop count edits) rise
  where
    none : (ws : List BodyEdit) → ReachLeaf [] 0 ws → ws ≡ []
    none [] h = refl
    none (w ∷ ws) h = absurd (omega (arith, h.0))

follow_same : (p : StorePlace) (es : List BodyEdit) (v w : BodyEdit) → store_place v ≡ store_place w → Follow p (es ++ v ∷ []) → Follow p (es ++ w ∷ [])
follow_same p [] v w e h = (subst (λ q. place_cmp p q ≡ Less) e h.0, tt)
follow_same p (x ∷ es) v w e h = (h.0, follow_same p es v w e h.1)

rise_same : (es : List BodyEdit) (v w : BodyEdit) → store_place v ≡ store_place w → Rise (es ++ v ∷ []) → Rise (es ++ w ∷ [])
rise_same [] v w e h = (tt, tt)
rise_same (x ∷ es) v w e h = (follow_same (store_place x) es v w e h.0, rise_same es v w e h.1)

fold_both : (rows : Bodies) (us ws : List BodyEdit) → fold edit_body rows (us ++ ws) ≡ fold edit_body (fold edit_body rows us) ws
fold_both rows [] ws = refl
fold_both rows (u ∷ us) ws = fold_both (edit_body rows u) us ws

-- of two edits of one place the last one says what stands there
twice : (rows : Bodies) (v w : BodyEdit) → store_place v ≡ store_place w → edit_body (edit_body rows v) w ≡ edit_body rows w
twice rows v w e = same_map place_total place_exact _ _ (λ q.
    get-with_body (edit_body rows v) (store_place w) w.body q
    ∙ ap (cond (eq_by_cmp place_cmp q (store_place w)) w.body) (get-with_body rows (store_place v) v.body q ∙ ap (λ (p : StorePlace). cond (eq_by_cmp place_cmp q p) v.body (get rows q)) e)
    ∙ inner (eq_by_cmp place_cmp q (store_place w)) w.body v.body (get rows q)
    ∙ sym (get-with_body rows (store_place w) w.body q))
  where
    inner : (b : Bool) (x y z : Option (List ℕ)) → cond b x (cond b y z) ≡ cond b x z
    inner true x y z = refl
    inner false x y z = refl

pub keep_last : (out new ws rest : List BodyEdit) (v : BodyEdit) → ws ≡ v ∷ rest → DontFall ws → is_last_of ws ≡ true → new ≡ out ++ v ∷ [] → Rise (out ++ take 1 ws) → Rise (new ++ take 1 rest)
keep_last out new ws [] v is fall last grown rise =
    subst Rise (sym (append-nil new ∙ grown)) (subst (λ vs. Rise (out ++ take 1 vs)) is rise)
keep_last out new ws (w ∷ rest) v is fall last grown rise =
    let order : DontFall (v ∷ w ∷ rest) = subst DontFall is fall in
    let apart : not (is_eq (place_cmp (store_place v) (store_place w))) ≡ true = ap is_last_of (sym is) ∙ last in
    subst Rise (sym (ap (λ (zs : List BodyEdit). zs ++ w ∷ []) grown ∙ append_assoc out (v ∷ []) (w ∷ [])))
    (rise_push out v w (below (store_place v) (store_place w) order.0 apart) (subst (λ vs. Rise (out ++ take 1 vs)) is rise))

pub keep_same : (out new ws rest : List BodyEdit) (v : BodyEdit) → ws ≡ v ∷ rest → new ≡ out ++ v ∷ [] → new ++ rest ≡ out ++ ws
keep_same out new ws rest v is grown = ap (λ (zs : List BodyEdit). zs ++ rest) grown ∙ append_assoc out (v ∷ []) rest ∙ ap (λ (zs : List BodyEdit). out ++ zs) (sym is)

pub skip_rise : (out ws rest : List BodyEdit) (v : BodyEdit) → ws ≡ v ∷ rest → is_last_of ws ≡ false → Rise (out ++ take 1 ws) → Rise (out ++ take 1 rest)
skip_rise out ws [] v is last rise = let no : true ≡ false = ap is_last_of (sym is) ∙ last in absurd cc
skip_rise out ws (w ∷ rest) v is last rise =
    rise_same out v w (place_exact (store_place v) (store_place w) (tied _ (ap is_last_of (sym is) ∙ last))) (subst (λ vs. Rise (out ++ take 1 vs)) is rise)

pub skip_same : (rows : Bodies) (out ws rest : List BodyEdit) (v : BodyEdit) → ws ≡ v ∷ rest → is_last_of ws ≡ false → fold edit_body rows (out ++ rest) ≡ fold edit_body rows (out ++ ws)
skip_same rows out ws [] v is last = let no : true ≡ false = ap is_last_of (sym is) ∙ last in absurd cc
skip_same rows out ws (w ∷ rest) v is last =
    fold_both rows out (w ∷ rest)
    ∙ ap (λ (m : Bodies). fold edit_body m rest) (sym (twice (fold edit_body rows out) v w (place_exact (store_place v) (store_place w) (tied _ (ap is_last_of (sym is) ∙ last)))))
    ∙ sym (fold_both rows out (v ∷ w ∷ rest)) ∙ ap (λ (zs : List BodyEdit). fold edit_body rows (out ++ zs)) (sym is)

pub fall_tail : (ws rest : List BodyEdit) (v : BodyEdit) → ws ≡ v ∷ rest → DontFall ws → DontFall rest
fall_tail ws rest v is h = let all : DontFall (v ∷ rest) = subst DontFall is h in all.1

-- ---- a stable sort

abbrev pub comes_before : BodyEdit → BodyEdit → Bool
comes_before x y = is_lt (place_cmp (store_place x) (store_place y))

pub sorted_edits_dont_fall : (xs : List BodyEdit) → IsSortedBy comes_before xs → DontFall xs
sorted_edits_dont_fall [] h = tt
sorted_edits_dont_fall (x ∷ []) h = (tt, tt)
sorted_edits_dont_fall (x ∷ y ∷ xs) h = (
  h 0 x (omega arith) (omega arith),
  sorted_edits_dont_fall (y ∷ xs) (λ k d a b.
      let n : suc k + 1 ≡ suc (k + 1) = omega arith in
      ap (λ j. comes_before (get_or (x ∷ y ∷ xs) j d) (get_or (y ∷ xs) k d)) (sym n) ∙ h (suc k) d (omega arith) (omega (arith, b))),
)

-- what edits leave at a place
after : StorePlace → List BodyEdit → Option (List ℕ) → Option (List ℕ)
after q [] row = row
after q (w ∷ ws) row = after q ws (cond (eq_by_cmp place_cmp q (store_place w)) w.body row)

get-after : (ws : List BodyEdit) (rows : Bodies) (q : StorePlace) → get (fold edit_body rows ws) q ≡ after q ws (get rows q)
unfolding after
get-after [] rows q = refl
get-after (w ∷ ws) rows q = get-after ws (edit_body rows w) q ∙ ap (after q ws) (get-with_body rows (store_place w) w.body q)

ties_are : (x y : BodyEdit) (q : StorePlace) → store_place x ≡ q → ties comes_before x y ≡ eq_by_cmp place_cmp q (store_place y)
ties_are x y q e = ap (λ o. not (is_lt (place_cmp (store_place x) (store_place y))) && not (is_lt o)) (place_total.antisymm (store_place y) (store_place x))
    ∙ level (place_cmp (store_place x) (store_place y)) ∙ ap (λ (p : StorePlace). eq_by_cmp place_cmp p (store_place y)) e
  where
    level : (o : Ordering) → (not (is_lt o) && not (is_lt (ordering_reverse o))) ≡ is_eq o
    level Less = refl
    level Equal = refl
    level Greater = refl

after_filter : (x : BodyEdit) (q : StorePlace) → store_place x ≡ q → (xs : List BodyEdit) (row : Option (List ℕ)) → after q xs row ≡ after q (filter (ties comes_before x) xs) row
unfolding after
after_filter x q e [] row = refl
after_filter x q e (y ∷ ys) row =
    elim (eq_by_cmp place_cmp q (store_place y)) as (λ b. eq_by_cmp place_cmp q (store_place y) ≡ b → after q ys (cond b y.body row) ≡ after q (cond b (y ∷ filter (ties comes_before x) ys) (filter (ties comes_before x) ys)) row) [
      | true ↦ λ t. after_filter x q e ys y.body
          ∙ ap (λ b. after q (filter (ties comes_before x) ys) (cond b y.body row)) (sym t)
      | false ↦ λ t. after_filter x q e ys row
    ] refl
    ∙ ap (λ b. after q (cond b (y ∷ filter (ties comes_before x) ys) (filter (ties comes_before x) ys)) row) (sym (ties_are x y q e))

-- an edit of the place, or none
there_or_none : (xs : List BodyEdit) (q : StorePlace) → ((x : BodyEdit) × (store_place x ≡ q)) ⊎ ((row : Option (List ℕ)) → after q xs row ≡ row)
unfolding after
there_or_none [] q = inr (λ row. refl)
there_or_none (x ∷ xs) q =
    let rest = there_or_none xs q in
    elim (place_cmp q (store_place x)) as (λ o. place_cmp q (store_place x) ≡ o → ((x : BodyEdit) × (store_place x ≡ q)) ⊎ ((row : Option (List ℕ)) → after q (x ∷ xs) row ≡ row)) [
      | Less ↦ λ t. more (ap is_eq t) rest
      | Equal ↦ λ t. inl (x, sym (place_exact q (store_place x) t))
      | Greater ↦ λ t. more (ap is_eq t) rest
    ] refl
  where
    more : eq_by_cmp place_cmp q (store_place x) ≡ false → ((x : BodyEdit) × (store_place x ≡ q)) ⊎ ((row : Option (List ℕ)) → after q xs row ≡ row)
        → ((x : BodyEdit) × (store_place x ≡ q)) ⊎ ((row : Option (List ℕ)) → after q (x ∷ xs) row ≡ row)
    more apart rest = ⊎_elim (λ h. inl h) (λ h. inr (λ row. ap (λ b. after q xs (cond b x.body row)) apart ∙ h row)) rest

pub sorted_same : (xs ys : List BodyEdit) → IsStableBy comes_before xs ys → (rows : Bodies) → fold edit_body rows ys ≡ fold edit_body rows xs
sorted_same xs ys stable rows = same_map place_total place_exact _ _ (λ q. get-after ys rows q ∙ at q (get rows q) ∙ sym (get-after xs rows q))
  where
    by : (q : StorePlace) (row : Option (List ℕ)) → ((x : BodyEdit) × (store_place x ≡ q)) → after q ys row ≡ after q xs row
    by q row h = after_filter h.0 q h.1 ys row ∙ ap (λ (zs : List BodyEdit). after q zs row) (stable h.0) ∙ sym (after_filter h.0 q h.1 xs row)

    at : (q : StorePlace) (row : Option (List ℕ)) → after q ys row ≡ after q xs row
    at q row = ⊎_elim (by q row) (λ none. ⊎_elim (by q row) (λ nothing. none row ∙ sym (nothing row)) (there_or_none xs q)) (there_or_none ys q)

-- ---- whether an edit is the last of its place

pub last_none : (ws : List BodyEdit) (at : ℕ) → length ws ≤ at + 1 → true ≡ is_last_of (drop at ws)
last_none [] zero h = refl
last_none [] (suc at) h = refl
last_none (w ∷ []) zero h = refl
last_none (w ∷ v ∷ ws) zero h = absurd (omega (arith, h))
last_none (w ∷ ws) (suc at) h = last_none ws at (omega (arith, h))

pub head_at : (ws : List BodyEdit) (at : ℕ) → at < length ws → (v : BodyEdit) × (drop at ws ≡ v ∷ drop (at + 1) ws)
head_at [] at h = absurd (omega (arith, h))
head_at (w ∷ ws) zero h = (w, refl)
head_at (w ∷ ws) (suc at) h =
    let rest = head_at ws at (omega (arith, h)) in
    let k : suc (at + 1) ≡ suc at + 1 = omega arith in
    (rest.0, rest.1 ∙ ap (λ j. rest.0 ∷ drop j (w ∷ ws)) k)
