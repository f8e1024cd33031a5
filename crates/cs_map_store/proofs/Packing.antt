-- Entries in chunks.
use Rattle.std.proofs.Common.{◌≡◌, ℕ, zero, suc, ◌+◌, ◌-◌, ◌*◌, ◌<◌, ◌≤◌, List, [], ◌∷◌, ◌++◌, refl, sym, ap, ◌∙◌, ⊎_elim, length, get_or, take, drop, arith, length-append}
use Rattle.std.specs.Prelude.{pos}
use Rattle.std.specs.List.{All, slice_range}
use Rattle.std.proofs.lemmas.List.{append_assoc, append-nil, take_all, length-drop, drop-append-le, take-append-le, get_or_append_left, get_or-append_right}
use Rattle.std.proofs.Math.Seq.{drop-append_seam}
use Rattle.cs_store.specs.Contents.{LogItem}
use Rattle.cs_map_store.specs.declared.log.EntrySpot.{EntrySpot}
use Rattle.cs_map_store.specs.Packed.{PackedItems, AreSpots, IsFull, IsPart, item_in, items_in, joined, start_at}

-- ---- one chunk

slice_kept : (a b : List ℕ) (s e : ℕ) → s ≤ e → e ≤ length a → slice_range (a ++ b) s e ≡ slice_range a s e
slice_kept a b s e within bound =
    ap (take (e - s)) (drop-append-le s a b (omega arith)) ∙ take-append-le (e - s) (drop s a) b (omega (arith, length-drop s a))

last_part : (bytes part : List ℕ) → slice_range (bytes ++ part) (length bytes) (length (bytes ++ part)) ≡ part
last_part bytes part =
    ap (take (length (bytes ++ part) - length bytes)) (drop-append_seam bytes part) ∙ take_all (length (bytes ++ part) - length bytes) part (omega (arith, length-append bytes part))

spots_order : (spots : List EntrySpot) (start end : ℕ) → AreSpots start spots end → start ≤ end
spots_order [] start end is = omega (arith, is)
spots_order (s ∷ spots) start end is = let rest = spots_order spots s.end end is.1 in omega (arith, is.0, rest)

-- an entry more behind the others
pub items_pushed : (bytes more : List ℕ) (spots : List EntrySpot) (start : ℕ) (s : EntrySpot) → AreSpots start spots (length bytes) → s.end ≡ length (bytes ++ more)
    → items_in (bytes ++ more) start (spots ++ s ∷ []) ≡ items_in bytes start spots ++ record { origin = pos s.origin; number = s.number; body = more } ∷ []
items_pushed bytes more [] start s is ends =
    let body : slice_range (bytes ++ more) start s.end ≡ more = (λ i. slice_range (bytes ++ more) (is i) (ends i)) ∙ last_part bytes more in
    λ i. record { origin = pos s.origin; number = s.number; body = body i } ∷ []
items_pushed bytes more (r ∷ spots) start s is ends =
    let body : slice_range (bytes ++ more) start r.end ≡ slice_range bytes start r.end = slice_kept bytes more start r.end is.0 (spots_order spots r.end (length bytes) is.1) in
    let rest = items_pushed bytes more spots r.end s is.1 ends in
    λ i. record { origin = pos r.origin; number = r.number; body = body i } ∷ rest i

pub spots_pushed : (spots : List EntrySpot) (start end : ℕ) (s : EntrySpot) → AreSpots start spots end → end ≤ s.end → AreSpots start (spots ++ s ∷ []) s.end
spots_pushed [] start end s is behind = (omega (arith, is, behind), refl)
spots_pushed (r ∷ spots) start end s is behind = (is.0, spots_pushed spots r.end end s is.1 behind)

pub items_long : (bytes : List ℕ) (spots : List EntrySpot) (start : ℕ) → length (items_in bytes start spots) ≡ length spots
items_long bytes [] start = refl
items_long bytes (s ∷ spots) start = ap suc (items_long bytes spots s.end)

pub nth_in : (bytes : List ℕ) (spots : List EntrySpot) (start at : ℕ) (d : EntrySpot) (e : LogItem) → at < length spots → get_or (items_in bytes start spots) at e ≡ item_in bytes (start_at start spots at) (get_or spots at d)
nth_in bytes [] start at d e less = absurd (omega (arith, less))
nth_in bytes (s ∷ spots) start zero d e less = refl
nth_in bytes (s ∷ spots) start (suc at) d e less = nth_in bytes spots s.end at d e (omega (arith, less))

abbrev pub no_spot : EntrySpot
no_spot = record { number = 0; origin = 0; end = 0 }

-- a body begins where the one before it ends
pub start_is : (spots : List EntrySpot) (start at : ℕ) (d : EntrySpot) → at < length spots → (get_or spots at d).end ≡ start_at start spots (suc at)
start_is [] start at d less = absurd (omega (arith, less))
start_is (s ∷ spots) start zero d less = refl
start_is (s ∷ spots) start (suc at) d less = start_is spots s.end at d (omega (arith, less))

pub body_within : (spots : List EntrySpot) (start end at : ℕ) (d : EntrySpot) → at < length spots → AreSpots start spots end → (start_at start spots at ≤ (get_or spots at d).end) × ((get_or spots at d).end ≤ end)
body_within [] start end at d less is = absurd (omega (arith, less))
body_within (s ∷ spots) start end zero d less is = (is.0, spots_order spots s.end end is.1)
body_within (s ∷ spots) start end (suc at) d less is = body_within spots s.end end at d (omega (arith, less)) is.1

-- ---- all chunks

all_tail : {X : Type 0} (P : X → Type 0) (x : X) (xs : List X) → All P (x ∷ xs) → All P xs
all_tail P x xs h = λ k d less. h (suc k) d (omega (arith, less))

pub joined_long : (full : List PackedItems) → All IsFull full → length (joined full) ≡ 256 * length full
joined_long [] all = omega arith
joined_long (c ∷ cs) all =
    let here : length c.items ≡ 256 = all 0 c (omega arith) in
    let rest = joined_long cs (all_tail IsFull c cs all) in
    omega (arith, length-append c.items (joined cs), here, rest)

pub joined_push : (full : List PackedItems) (c : PackedItems) → joined (full ++ c ∷ []) ≡ joined full ++ c.items
joined_push [] c = append-nil c.items
joined_push (x ∷ xs) c = ap (λ (items : List LogItem). x.items ++ items) (joined_push xs c) ∙ sym (append_assoc x.items (joined xs) c.items)

pub part_long : (last : PackedItems) → IsPart last → length last.items ≤ 256
part_long last part = ⊎_elim (λ (e : length last.items + last.places ≡ 256). omega (arith, e)) (λ (e : length last.items + last.places ≡ 0). omega (arith, e)) part

-- what stands in a full chunk
pub in_full : (full : List PackedItems) (last : List LogItem) (number rest : ℕ) (c : PackedItems) (d : LogItem) → All IsFull full → number < length full → rest < 256
    → get_or (joined full ++ last) (256 * number + rest) d ≡ get_or (get_or full number c).items rest d
in_full [] last number rest c d all less low = absurd (omega (arith, less))
in_full (x ∷ xs) last zero rest c d all less low =
    let here : length x.items ≡ 256 = all 0 x (omega arith) in
    let k : 256 * 0 + rest ≡ rest = omega arith in
    ap (λ (n : ℕ). get_or ((x.items ++ joined xs) ++ last) n d) k
    ∙ ap (λ (items : List LogItem). get_or items rest d) (append_assoc x.items (joined xs) last)
    ∙ get_or_append_left x.items (joined xs ++ last) d rest (omega (arith, here, low))
in_full (x ∷ xs) last (suc number) rest c d all less low =
    let here : length x.items ≡ 256 = all 0 x (omega arith) in
    let k : (256 * suc number + rest) - 256 ≡ 256 * number + rest = omega arith in
    ap (λ (items : List LogItem). get_or items (256 * suc number + rest) d) (append_assoc x.items (joined xs) last)
    ∙ get_or-append_right x.items (joined xs ++ last) 256 (256 * suc number + rest) d here (omega arith)
    ∙ ap (λ (n : ℕ). get_or (joined xs ++ last) n d) k
    ∙ in_full xs last number rest c d (all_tail IsFull x xs all) (omega (arith, less)) low

-- what stands in the last chunk
pub in_last : (full : List PackedItems) (last : List LogItem) (at rest : ℕ) (d : LogItem) → All IsFull full → at ≡ 256 * length full + rest → get_or (joined full ++ last) at d ≡ get_or last rest d
in_last full last at rest d all is =
    let k : at - 256 * length full ≡ rest = omega (arith, is) in
    get_or-append_right (joined full) last (256 * length full) at d (joined_long full all) (omega (arith, is)) ∙ ap (λ (n : ℕ). get_or last n d) k
