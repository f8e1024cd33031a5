-- Entries that stand in bytes.
use Rattle.std.proofs.Common.{◌≡◌, ℕ, Bool, true, false, cond, Option, zero, suc, ◌+◌, ◌-◌, ◌<◌, ◌≤◌, ◌*◌, ◌⊎◌, inl, inr, List, [], ◌∷◌, ◌++◌, refl, sym, ap, subst, ◌∙◌, length, get_or, take, drop, map, arith, length-append}
use Rattle.std.specs.Prelude.{pos, slice_set}
use Rattle.std.specs.List.{All, insert, remove, slice_range}
use Rattle.std.specs.Ordering.{int_cmp, nat_cmp, ordering_then}
use Rattle.std.specs.declared.cmp.Ordering.TheVariants.{Equal}
use Rattle.std.proofs.lemmas.List.{length-take-le, take_all, take-append-drop, take-map, drop-map, length-drop, drop-append-le, take-append-le, map-append, take_more, drop_more, get_or-drop, append_assoc}
use Rattle.std.proofs.lemmas.List.Folds.{drop_split}
use Rattle.std.proofs.Math.Seq.{drop-append_seam, take-append-add}
use Rattle.std.proofs.lemmas.List.Elements.{All-push, All-append, All-take, All-drop}
use Rattle.cs_order.specs.Order.{by_bytes}
use Rattle.cs_store.specs.Contents.{StorePlace, place_cmp}
use Rattle.cs_leaf.specs.Entries.{Entry, IsFrontOf, IsHeadOf, IsPacked, IsRun, IsSpotIn, IsSpotEditAt, IsSpotEditFor, IsSpotEditIn, IsTight, bytes_of, entry_at, entries_at, shifted, nth, no_entry, size_of, spots_after, written}
use Rattle.cs_leaf.specs.declared.leaf.Front.{Front}
use Rattle.cs_leaf.specs.declared.leaf.Spot.{Spot}
use Rattle.cs_leaf.specs.declared.leaf.SpotEdit.{SpotEdit}
use Rattle.cs_leaf.specs.declared.leaf.SpotEdit.TheVariants.{Set, Add, Remove, Stay}
use Rattle.cs_leaf.proofs.Fronts.{head_nil, heads_decide}
use Rattle.cs_leaf.proofs.Places.{int_cmp-pos}

slice_kept : (a b : List ℕ) (s e : ℕ) → s ≤ e → e ≤ length a → slice_range (a ++ b) s e ≡ slice_range a s e
slice_kept a b s e within bound =
    ap (take (e - s)) (drop-append-le s a b (omega arith)) ∙ take-append-le (e - s) (drop s a) b (omega (arith, length-drop s a))

all_tail : {X : Type 0} (P : X → Type 0) (x : X) (xs : List X) → All P (x ∷ xs) → All P xs
all_tail P x xs h = λ k d less. h (suc k) d (omega (arith, less))

all_first : {X : Type 0} (P : X → Type 0) (x : X) (xs : List X) → P x → All P xs → All P (x ∷ xs)
all_first P x xs one each zero d less = one
all_first P x xs one each (suc k) d less = each k d (omega (arith, less))

-- bytes behind them change nothing for a spot
pub spots_kept : (bytes more new : List ℕ) (spots : List Spot) → All (IsSpotIn bytes) spots → new ≡ bytes ++ more → All (IsSpotIn new) spots
spots_kept bytes more new spots within grown = subst (λ (n : List ℕ). All (IsSpotIn n) spots) (sym grown) (λ k d l.
    let h = within k d l in
    let key = slice_kept bytes more (get_or spots k d).key (get_or spots k d).row h.0 (omega (arith, h.1, h.2)) in
    (h.0, h.1, omega (arith, h.2, length-append bytes more), subst (IsHeadOf (get_or spots k d).head) (sym key) h.3))

all_kept : (bytes more : List ℕ) (spots : List Spot) → All (IsSpotIn bytes) spots → entries_at (bytes ++ more) spots ≡ entries_at bytes spots
all_kept bytes more [] within = refl
all_kept bytes more (s ∷ spots) within =
    let here = within 0 s (omega arith) in
    let key = slice_kept bytes more s.key s.row here.0 (omega (arith, here.1, here.2)) in
    let row = slice_kept bytes more s.row s.end here.1 here.2 in
    let rest = all_kept bytes more spots (all_tail (IsSpotIn bytes) s spots within) in
    λ i. ((pos s.table, key i), row i) ∷ rest i

pub entries_kept : (bytes more new : List ℕ) (spots : List Spot) → All (IsSpotIn bytes) spots → new ≡ bytes ++ more → entries_at new spots ≡ entries_at bytes spots
entries_kept bytes more new spots within grown = ap (λ (n : List ℕ). entries_at n spots) grown ∙ all_kept bytes more spots within

-- the bytes before those that were appended
pub taken_back : (bytes more new : List ℕ) (held : ℕ) → held ≡ length bytes → new ≡ bytes ++ more → take held new ≡ bytes
taken_back bytes more new held long grown = (λ i. take (long i) (grown i)) ∙ take-append-le (length bytes) bytes more (omega arith) ∙ take_all (length bytes) bytes (omega arith)

last_part : (bytes part : List ℕ) → slice_range (bytes ++ part) (length bytes) (length (bytes ++ part)) ≡ part
last_part bytes part =
    ap (take (length (bytes ++ part) - length bytes)) (drop-append_seam bytes part) ∙ take_all (length (bytes ++ part) - length bytes) part (omega (arith, length-append bytes part))

-- the spot of a row whose bytes are appended
module _ (bytes key row new : List ℕ) (spot : Spot) (grown : new ≡ (bytes ++ key) ++ row) (begins : spot.key ≡ length bytes) (middle : spot.row ≡ length (bytes ++ key)) (ends : spot.end ≡ length new) where
  its_key : slice_range new spot.key spot.row ≡ key
  its_key = (λ i. slice_range (grown i) (begins i) (middle i)) ∙ slice_kept (bytes ++ key) row (length bytes) (length (bytes ++ key)) (omega (arith, length-append bytes key)) (omega arith) ∙ last_part bytes key

  its_row : slice_range new spot.row spot.end ≡ row
  its_row = (λ i. slice_range (grown i) (middle i) (ends i)) ∙ ap (λ (n : List ℕ). slice_range ((bytes ++ key) ++ row) (length (bytes ++ key)) (length n)) grown ∙ last_part (bytes ++ key) row

  pub row_stands : IsHeadOf spot.head key → IsSpotIn new spot
  row_stands head = (
    omega (arith, begins, middle, length-append bytes key),
    omega (arith, middle, ends, ap length grown, length-append (bytes ++ key) row),
    omega (arith, ends),
    subst (IsHeadOf spot.head) (sym its_key) head,
  )

  pub row_entry : entry_at new spot ≡ ((pos spot.table, key), row)
  row_entry = λ i. ((pos spot.table, its_key i), its_row i)

pub slice_joined : {X : Type 0} (bytes : List X) (start middle end : ℕ) → start ≤ middle → middle ≤ end → end ≤ length bytes → slice_range bytes start end ≡ slice_range bytes start middle ++ slice_range bytes middle end
slice_joined bytes start middle end first second bound =
    let part = slice_range bytes start middle in
    let long : length part ≡ middle - start = length-take-le (middle - start) (drop start bytes) (omega (arith, length-drop start bytes)) in
    let all : end - start ≡ length part + (end - middle) = omega (arith, long) in
    (λ i. take (all i) (drop_split bytes start middle first i)) ∙ take-append-add part (drop middle bytes) (end - middle)

-- ---- rows that stand one behind another

pub slice_long : {X : Type 0} (xs : List X) (start end : ℕ) → end ≤ length xs → length (slice_range xs start end) ≡ end - start
slice_long xs start end bound = length-take-le (end - start) (drop start xs) (omega (arith, length-drop start xs, bound))

abbrev pub no_spot : Spot
no_spot = record { head = 0; table = 0; key = 0; row = 0; end = 0 }

-- a row more of them
pub run_more : (start : ℕ) (run : List Spot) (end : ℕ) (s : Spot) → IsRun start run end → s.key ≡ end → IsRun start (run ++ s ∷ []) s.end
run_more start [] end s is next = (next ∙ sym is, refl)
run_more start (r ∷ run) end s is next = (is.0, run_more r.end run end s is.1 next)

module _ (source : List ℕ) where
  pub run_order : (run : List Spot) (start end : ℕ) → IsRun start run end → All (IsSpotIn source) run → start ≤ end
  run_order [] start end is there = omega (arith, is)
  run_order (s ∷ run) start end is there =
      let here = there 0 s (omega arith) in
      let rest = run_order run s.end end is.1 (all_tail (IsSpotIn source) s run there) in
      omega (arith, is.0, here.0, here.1, rest)

  pub run_within : (run : List Spot) (start end : ℕ) → IsRun start run end → All (IsSpotIn source) run → 0 < length run → end ≤ length source
  run_within [] start end is there some = absurd (omega (arith, some))
  run_within (s ∷ []) start end is there some = let here = there 0 s (omega arith) in omega (arith, is.1, here.2)
  run_within (s ∷ r ∷ run) start end is there some = run_within (r ∷ run) s.end end is.1 (all_tail (IsSpotIn source) s (r ∷ run) there) (omega arith)

  run_there : (run : List Spot) (start end at : ℕ) (d : Spot) → at < length run → IsRun start run end → All (IsSpotIn source) run → start ≤ (get_or run at d).key
  run_there [] start end at d less is there = absurd (omega (arith, less))
  run_there (s ∷ run) start end zero d less is there = omega (arith, is.0)
  run_there (s ∷ run) start end (suc at) d less is there =
      let here = there 0 s (omega arith) in
      let rest = run_there run s.end end at d (omega (arith, less)) is.1 (all_tail (IsSpotIn source) s run there) in
      omega (arith, is.0, here.0, here.1, rest)

  pub run_ordered : (run : List Spot) (start end at : ℕ) (d : Spot) → at < length run → IsRun start run end → All (IsSpotIn source) run
      → (start ≤ (get_or run at d).key) × ((get_or run at d).key ≤ (get_or run at d).row) × ((get_or run at d).row ≤ (get_or run at d).end)
  run_ordered run start end at d less is there = let here = there at d less in (run_there run start end at d less is there, here.0, here.1)

  -- how many bytes they take
  pub run_bytes : (run : List Spot) (start end : ℕ) → IsRun start run end → All (IsSpotIn source) run → start + bytes_of (entries_at source run) ≡ end
  run_bytes [] start end is there = omega (arith, is)
  run_bytes (s ∷ run) start end is there =
      let here = there 0 s (omega arith) in
      let rest = run_bytes run s.end end is.1 (all_tail (IsSpotIn source) s run there) in
      let key = slice_long source s.key s.row (omega (arith, here.1, here.2)) in
      let row = slice_long source s.row s.end here.2 in
      omega (arith, is.0, here.0, here.1, key, row, rest)

-- rows that are copied from other bytes in one piece
module _ (bytes source new : List ℕ) (start end : ℕ) (grown : new ≡ bytes ++ slice_range source start end) (bound : end ≤ length source) where
  shifted_slice : (from to : ℕ) → start ≤ from → from ≤ to → to ≤ end → slice_range new (length bytes + (from - start)) (length bytes + (to - start)) ≡ slice_range source from to
  shifted_slice from to first middle last =
      let front = slice_range source start from in
      let part = slice_range source from to in
      let back = slice_range source to end in
      let parts : slice_range source start end ≡ front ++ (part ++ back) =
      slice_joined source start from end first (omega (arith, middle, last)) bound ∙ ap (λ zs. front ++ zs) (slice_joined source from to end middle last bound) in
      let all : new ≡ ((bytes ++ front) ++ part) ++ back =
      grown ∙ ap (λ zs. bytes ++ zs) parts ∙ sym (append_assoc bytes front (part ++ back)) ∙ sym (append_assoc (bytes ++ front) part back) in
      let long = slice_long source start from (omega (arith, middle, last, bound)) in
      let its = slice_long source from to (omega (arith, last, bound)) in
      let begins : length bytes + (from - start) ≡ length (bytes ++ front) = omega (arith, long, length-append bytes front) in
      let ends : length bytes + (to - start) ≡ length ((bytes ++ front) ++ part) = omega (arith, long, its, first, middle, length-append bytes front, length-append (bytes ++ front) part) in
      (λ i. slice_range (all i) (begins i) (ends i))
      ∙ slice_kept ((bytes ++ front) ++ part) back (length (bytes ++ front)) (length ((bytes ++ front) ++ part)) (omega (arith, length-append (bytes ++ front) part)) (omega arith)
      ∙ last_part (bytes ++ front) part

  shifted_entry : (s : Spot) → IsSpotIn source s → start ≤ s.key → s.end ≤ end → entry_at new (shifted s start (length bytes)) ≡ entry_at source s
  shifted_entry s here first last =
      let key = shifted_slice s.key s.row first here.0 (omega (arith, here.1, last)) in
      let row = shifted_slice s.row s.end (omega (arith, first, here.0)) here.1 last in
      λ i. ((pos s.table, key i), row i)

  shifted_in : (s : Spot) → IsSpotIn source s → start ≤ s.key → s.end ≤ end → IsSpotIn new (shifted s start (length bytes))
  shifted_in s here first last = (
    omega (arith, here.0),
    omega (arith, here.1),
    omega (arith, ap length grown, length-append bytes (slice_range source start end), slice_long source start end bound, first, here.0, here.1, last),
    subst (IsHeadOf s.head) (sym (shifted_slice s.key s.row first here.0 (omega (arith, here.1, last)))) here.3,
  )

  pub shifted_run : (run : List Spot) (from : ℕ) → start ≤ from → IsRun from run end → All (IsSpotIn source) run
      → All (IsSpotIn new) (map (λ s. shifted s start (length bytes)) run) × (entries_at new (map (λ s. shifted s start (length bytes)) run) ≡ entries_at source run)
  shifted_run [] from first is there = ((λ k d less. absurd (omega (arith, less))), refl)
  shifted_run (s ∷ run) from first is there =
      let here = there 0 s (omega arith) in
      let others = all_tail (IsSpotIn source) s run there in
      let last = run_order source run s.end end is.1 others in
      let begins : start ≤ s.key = omega (arith, first, is.0) in
      let rest = shifted_run run s.end (omega (arith, begins, here.0, here.1)) is.1 others in (
        all_first (IsSpotIn new) (shifted s start (length bytes)) (map (λ r. shifted r start (length bytes)) run) (shifted_in s here begins last) rest.0,
        λ i. shifted_entry s here begins last i ∷ rest.1 i,
      )

  pub shifted_long : (run : List Spot) → start ≤ end → IsRun start run end → All (IsSpotIn source) run → length new ≡ length bytes + bytes_of (entries_at source run)
  shifted_long run order is there =
      let size = run_bytes source run start end is there in
      omega (arith, ap length grown, length-append bytes (slice_range source start end), slice_long source start end bound, order, size)

-- spots more
pub run_pushed : (bytes more new : List ℕ) (spots others now : List Spot) → All (IsSpotIn bytes) spots → All (IsSpotIn new) others → new ≡ bytes ++ more → now ≡ spots ++ others → All (IsSpotIn new) now
run_pushed bytes more new spots others now within its grown is = subst (All (IsSpotIn new)) (sym is) (All-append (IsSpotIn new) spots others (spots_kept bytes more new spots within grown) its)

pub entries_joined : (bytes more new : List ℕ) (spots others now : List Spot) (es : List Entry) → All (IsSpotIn bytes) spots → new ≡ bytes ++ more → now ≡ spots ++ others → entries_at new others ≡ es → entries_at new now ≡ entries_at bytes spots ++ es
entries_joined bytes more new spots others now es within grown is its =
    ap (entries_at new) is ∙ map-append (entry_at new) spots others ∙ (λ i. entries_kept bytes more new spots within grown i ++ its i)

-- a spot more
pub spots_pushed : (new : List ℕ) (spots now : List Spot) (spot : Spot) → All (IsSpotIn new) spots → IsSpotIn new spot → now ≡ spots ++ spot ∷ [] → All (IsSpotIn new) now
spots_pushed new spots now spot within here is = subst (All (IsSpotIn new)) (sym is) (All-push (IsSpotIn new) spots spot within here)

pub entries_pushed : (bytes more new : List ℕ) (spots now : List Spot) (spot : Spot) (e : Entry) → All (IsSpotIn bytes) spots → new ≡ bytes ++ more → now ≡ spots ++ spot ∷ [] → entry_at new spot ≡ e → entries_at new now ≡ entries_at bytes spots ++ e ∷ []
entries_pushed bytes more new spots now spot e within grown is its = entries_joined bytes more new spots (spot ∷ []) now (e ∷ []) within grown is (λ i. its i ∷ [])

pub slice_entries : (bytes : List ℕ) (spots : List Spot) (from to : ℕ) → entries_at bytes (slice_range spots from to) ≡ slice_range (entries_at bytes spots) from to
slice_entries bytes spots from to = sym (take-map (entry_at bytes) (to - from) (drop from spots)) ∙ ap (take (to - from)) (sym (drop-map (entry_at bytes) from spots))

-- the spots of some rows stand in the bytes too
pub slice_within : (bytes : List ℕ) (spots : List Spot) (from to : ℕ) → All (IsSpotIn bytes) spots → All (IsSpotIn bytes) (slice_range spots from to)
slice_within bytes spots from to within = All-take (IsSpotIn bytes) (to - from) (drop from spots) (All-drop (IsSpotIn bytes) from spots within)

-- one more of a list
pub slice_more : {X : Type 0} (xs : List X) (d : X) (from at : ℕ) → from ≤ at → at < length xs → slice_range xs from (at + 1) ≡ slice_range xs from at ++ get_or xs at d ∷ []
slice_more {X} xs d from at le less =
    let n : at + 1 - from ≡ (at - from) + 1 = omega arith in
    let m : from + (at - from) ≡ at = omega arith in
    ap (λ k. take k (drop from xs)) n ∙ take_more (drop from xs) (at - from) d (omega (arith, length-drop from xs))
    ∙ ap (λ (x : X). slice_range xs from at ++ x ∷ []) (get_or-drop from xs (at - from) d ∙ ap (λ k. get_or xs k d) m)

-- ---- how many bytes rows take

bytes_append : (xs ys : List Entry) → bytes_of (xs ++ ys) ≡ bytes_of xs + bytes_of ys
bytes_append [] ys = omega arith
bytes_append (x ∷ xs) ys = let rest = bytes_append xs ys in omega (arith, rest)

bytes_cut : (es : List Entry) (at : ℕ) → bytes_of es ≡ bytes_of (take at es) + bytes_of (drop at es)
bytes_cut es at = ap bytes_of (sym (take-append-drop at es)) ∙ bytes_append (take at es) (drop at es)

bytes_from : (es : List Entry) (at : ℕ) → at < length es → bytes_of (drop at es) ≡ size_of (nth es at) + bytes_of (drop (at + 1) es)
bytes_from es at less = ap bytes_of (drop_more es at no_entry less)

pub size_within : (es : List Entry) (at : ℕ) → at < length es → size_of (nth es at) ≤ bytes_of es
size_within es at less = let cut = bytes_cut es at in let from = bytes_from es at less in omega (arith, cut, from)

-- what is gone and what is written, where a place stands or would stand
pub bytes_after : (es : List Entry) (at : ℕ) (p : StorePlace) (body : Option (List ℕ)) (is_there : Bool) → (is_there ≡ true → at < length es)
    → bytes_of (take at es ++ (written p body ++ drop (cond is_there (at + 1) at) es)) + cond is_there (size_of (nth es at)) 0 ≡ bytes_of es + bytes_of (written p body)
bytes_after es at p body is_there there =
    let cut = bytes_cut es at in
    let parts = bytes_append (take at es) (written p body ++ drop (cond is_there (at + 1) at) es) in
    let back = bytes_append (written p body) (drop (cond is_there (at + 1) at) es) in
    let from : bytes_of (drop at es) ≡ cond is_there (size_of (nth es at)) 0 + bytes_of (drop (cond is_there (at + 1) at) es) = rest is_there there in
    omega (arith, cut, parts, back, from)
  where
    rest : (b : Bool) → (b ≡ true → at < length es) → bytes_of (drop at es) ≡ cond b (size_of (nth es at)) 0 + bytes_of (drop (cond b (at + 1) at) es)
    rest true less = bytes_from es at (less refl)
    rest false less = omega arith

-- rows more
pub tight_grown : (es more all : List Entry) (used held len used_after : ℕ) → IsTight used held es → all ≡ es ++ more → len ≡ held + bytes_of more → used_after ≡ used + (len - held) → IsTight used_after len all
tight_grown es more all used held len used_after was grown long is =
    let bytes : bytes_of all ≡ bytes_of es + bytes_of more = ap bytes_of grown ∙ bytes_append es more in
    (omega (arith, was.0, bytes, long, is), omega (arith, was.1, long, is), omega (arith, was.1, was.2, long, is))

-- a row that goes, and one that comes
pub tight_after : (es after : List Entry) (used gone held more len used_after : ℕ) → IsTight used held es → gone ≤ bytes_of es → bytes_of after + gone ≡ bytes_of es + more → len ≡ held + more → used_after ≡ (used - gone) + (len - held)
    → len ≤ 2 * used_after → IsTight used_after len after
tight_after es after used gone held more len used_after was less bytes long is bound =
    (omega (arith, was.0, less, bytes, long, is), omega (arith, was.0, was.1, less, long, is), bound)

-- ---- the first spot

-- it stays where spots are edited behind it
pub front_stays : (front : Front) (spots : List Spot) (at : ℕ) (spot_edit : SpotEdit) → IsFrontOf front spots → IsSpotEditAt (length spots) at spot_edit → (at ≡ 0) ⊎ IsFrontOf front (spots_after spots at spot_edit)
front_stays front spots zero spot_edit is fits = inl refl
front_stays front [] (suc at) (Set s) is fits = absurd (omega (arith, fits))
front_stays front (x ∷ xs) (suc at) (Set s) is fits = inr is
front_stays front [] (suc at) (Add s) is fits = absurd (omega (arith, fits))
front_stays front (x ∷ xs) (suc at) (Add s) is fits = inr is
front_stays front [] (suc at) Remove is fits = absurd (omega (arith, fits))
front_stays front (x ∷ xs) (suc at) Remove is fits = inr is
front_stays front spots (suc at) Stay is fits = inr is

-- the first entry's place and its head are the front's
pub front_tells : (front : Front) (bytes : List ℕ) (spots : List Spot) → All (IsSpotIn bytes) spots → IsFrontOf front spots → (pos front.table ≡ (nth (entries_at bytes spots) 0).0.0) × IsHeadOf front.head (nth (entries_at bytes spots) 0).0.1
front_tells front bytes [] within is = (ap pos is.1, (is.0 ∙ sym (head_nil 16), λ k. omega arith))
front_tells front bytes (s ∷ spots) within is = (ap pos is.1, subst (λ h. IsHeadOf h (slice_range bytes s.key s.row)) (sym is.0) (within 0 s (omega arith)).3)

-- of two places of one table the heads decide, where they differ
pub first_decides : (front : Front) (bytes : List ℕ) (spots : List Spot) (used table : ℕ) (key : List ℕ) (head : ℕ) → IsPacked front bytes spots used → IsHeadOf head key → nat_cmp front.table table ≡ Equal → (nat_cmp front.head head ≡ Equal → ⊥)
    → nat_cmp front.head head ≡ place_cmp (nth (entries_at bytes spots) 0).0 (pos table, key)
first_decides front bytes spots used table key head was its same apart =
    let tells = front_tells front bytes spots was.0 was.1 in
    let first : List ℕ = (nth (entries_at bytes spots) 0).0.1 in
    heads_decide first key front.head head tells.1 its apart
    ∙ sym (ap (λ o. ordering_then o (by_bytes first key)) (ap (λ t. int_cmp t (pos table)) (sym tells.0) ∙ int_cmp-pos front.table table ∙ same))

-- ---- spots after an edit of them

module _ (bytes : List ℕ) (spots : List Spot) (at : ℕ) (spot : Spot) where
  split_at : (next : ℕ) → map (entry_at bytes) (take at spots ++ spot ∷ drop next spots) ≡ take at (entries_at bytes spots) ++ entry_at bytes spot ∷ drop next (entries_at bytes spots)
  split_at next = map-append (entry_at bytes) (take at spots) (spot ∷ drop next spots) ∙ (λ i. sym (take-map (entry_at bytes) at spots) i ++ entry_at bytes spot ∷ sym (drop-map (entry_at bytes) next spots) i)

  pub entries_added : entries_at bytes (insert spots at spot) ≡ take at (entries_at bytes spots) ++ entry_at bytes spot ∷ drop at (entries_at bytes spots)
  entries_added = split_at at

  pub entries_set : at < length spots → entries_at bytes (slice_set spots at spot) ≡ take at (entries_at bytes spots) ++ entry_at bytes spot ∷ drop (at + 1) (entries_at bytes spots)
  entries_set less = ap (entries_at bytes) (set_split spots at less) ∙ split_at (at + 1)
    where
      set_split : (xs : List Spot) (k : ℕ) → k < length xs → slice_set xs k spot ≡ take k xs ++ spot ∷ drop (k + 1) xs
      set_split [] k h = absurd (omega (arith, h))
      set_split (x ∷ xs) zero h = refl
      set_split (x ∷ xs) (suc k) h = ap (λ (ys : List Spot). x ∷ ys) (set_split xs k (omega (arith, h))) ∙ (let n : suc (k + 1) ≡ suc k + 1 = omega arith in ap (λ j. x ∷ (take k xs ++ spot ∷ drop j (x ∷ xs))) n)

pub entries_removed : (bytes : List ℕ) (spots : List Spot) (at : ℕ) → entries_at bytes (remove spots at) ≡ take at (entries_at bytes spots) ++ drop (at + 1) (entries_at bytes spots)
entries_removed bytes spots at =
    let n : suc at ≡ at + 1 = omega arith in
    map-append (entry_at bytes) (take at spots) (drop (suc at) spots) ∙ (λ i. sym (take-map (entry_at bytes) at spots) i ++ sym (drop-map (entry_at bytes) (suc at) spots) i)
    ∙ ap (λ j. take at (entries_at bytes spots) ++ drop j (entries_at bytes spots)) n

pub spots_set : (bytes : List ℕ) (spots : List Spot) (at : ℕ) (spot : Spot) → All (IsSpotIn bytes) spots → IsSpotIn bytes spot → All (IsSpotIn bytes) (slice_set spots at spot)
spots_set bytes [] at spot within here k d less = within k d less
spots_set bytes (s ∷ spots) zero spot within here zero d less = here
spots_set bytes (s ∷ spots) zero spot within here (suc k) d less = within (suc k) d less
spots_set bytes (s ∷ spots) (suc at) spot within here zero d less = within 0 d (omega arith)
spots_set bytes (s ∷ spots) (suc at) spot within here (suc k) d less = spots_set bytes spots at spot (all_tail (IsSpotIn bytes) s spots within) here k d (omega (arith, less))

pub spots_added : (bytes : List ℕ) (spots : List Spot) (at : ℕ) (spot : Spot) → All (IsSpotIn bytes) spots → IsSpotIn bytes spot → All (IsSpotIn bytes) (insert spots at spot)
spots_added bytes spots at spot within here =
    All-append (IsSpotIn bytes) (take at spots) (spot ∷ drop at spots) (All-take (IsSpotIn bytes) at spots within) (all_first (IsSpotIn bytes) spot (drop at spots) here (All-drop (IsSpotIn bytes) at spots within))

pub spots_removed : (bytes : List ℕ) (spots : List Spot) (at : ℕ) → All (IsSpotIn bytes) spots → All (IsSpotIn bytes) (remove spots at)
spots_removed bytes spots at within =
    All-append (IsSpotIn bytes) (take at spots) (drop (suc at) spots) (All-take (IsSpotIn bytes) at spots within) (All-drop (IsSpotIn bytes) (suc at) spots within)

pub spots_still_in : (bytes : List ℕ) (spots : List Spot) (at : ℕ) (spot_edit : SpotEdit) → All (IsSpotIn bytes) spots → IsSpotEditIn bytes spot_edit → All (IsSpotIn bytes) (spots_after spots at spot_edit)
spots_still_in bytes spots at (Set s) within here = spots_set bytes spots at s within here
spots_still_in bytes spots at (Add s) within here = spots_added bytes spots at s within here
spots_still_in bytes spots at Remove within here = spots_removed bytes spots at within
spots_still_in bytes spots at Stay within here = within

pub still_packed : (front : Front) (bytes new : List ℕ) (spots now : List Spot) (used : ℕ) → IsPacked front bytes spots used → new ≡ bytes → now ≡ spots → IsPacked front new now used
still_packed front bytes new spots now used was same_bytes same_spots = subst (λ (n : List ℕ). IsPacked front n now used) (sym same_bytes) (subst (λ (s : List Spot). IsPacked front bytes s used) (sym same_spots) was)

-- the edit of spots for an edit
module _ (bytes : List ℕ) (spots : List Spot) (at : ℕ) (p : StorePlace) (body : Option (List ℕ)) (is_there : Bool) where
  pub spot_edit_stands : (spot_edit : SpotEdit) → at ≤ length spots → (is_there ≡ true → at < length spots) → IsSpotEditFor p body is_there bytes spot_edit → IsSpotEditIn bytes spot_edit × IsSpotEditAt (length spots) at spot_edit
  spot_edit_stands (Set s) within there for = (for.1, there for.0)
  spot_edit_stands (Add s) within there for = (for.1, within)
  spot_edit_stands Remove within there for = (tt, there for.0)
  spot_edit_stands Stay within there for = (tt, tt)

  pub entries_after : (spot_edit : SpotEdit) (es : List Entry) → entries_at bytes spots ≡ es → (is_there ≡ true → at < length spots) → IsSpotEditFor p body is_there bytes spot_edit
      → entries_at bytes (spots_after spots at spot_edit) ≡ take at es ++ (written p body ++ drop (cond is_there (at + 1) at) es)
  entries_after (Set s) es is there for =
      entries_set bytes spots at s (there for.0) ∙ ap (λ (zs : List Entry). take at zs ++ (entry_at bytes s ∷ drop (at + 1) zs)) is
      ∙ (λ i. take at es ++ (sym for.2 i ++ drop (cond (sym for.0 i) (at + 1) at) es))
  entries_after (Add s) es is there for =
      entries_added bytes spots at s ∙ ap (λ (zs : List Entry). take at zs ++ (entry_at bytes s ∷ drop at zs)) is
      ∙ (λ i. take at es ++ (sym for.2 i ++ drop (cond (sym for.0 i) (at + 1) at) es))
  entries_after Remove es is there for =
      entries_removed bytes spots at ∙ ap (λ (zs : List Entry). take at zs ++ drop (at + 1) zs) is
      ∙ (λ i. take at es ++ (sym for.1 i ++ drop (cond (sym for.0 i) (at + 1) at) es))
  entries_after Stay es is there for =
      is ∙ sym (take-append-drop at es) ∙ (λ i. take at es ++ (sym for.1 i ++ drop (cond (sym for.0 i) (at + 1) at) es))
