-- Keys in one piece of memory.
use Rattle.std.proofs.Common.{◌≡◌, true, false, get_or, ℕ, zero, suc, ◌+◌, ◌-◌, ◌<◌, ◌≤◌, Ordering, Less, Equal, Greater, List, [], ◌∷◌, ◌++◌, length, take, drop, refl, sym, ap, ◌∙◌, arith, length-append}
use Rattle.std.specs.Prelude.{not, slice_index_or}
use Rattle.std.specs.Bool.{◌==◌}
use Rattle.std.specs.Ordering.{is_lt, ordering_index}
use Rattle.std.specs.List.{All, slice_range}
use Rattle.std.proofs.lemmas.List.{take_all, length-drop, drop-append-le, take-append-le, map-append, take_more}
use Rattle.std.proofs.Math.Seq.{drop-append_seam}
use Rattle.cs_order.specs.Laws.{KeysStay, OneKeyMore}
use Rattle.cs_order.specs.Spots.{IsSpotIn, keys_in}

slice_kept : (a b : List ℕ) (s e : ℕ) → s ≤ e → e ≤ length a → slice_range (a ++ b) s e ≡ slice_range a s e
slice_kept a b s e within bound =
    ap (take (e - s)) (drop-append-le s a b (omega arith)) ∙ take-append-le (e - s) (drop s a) b (omega (arith, length-drop s a))

all_tail : {X : Type 0} (P : X → Type 0) (x : X) (xs : List X) → All P (x ∷ xs) → All P xs
all_tail P x xs h = λ k d less. h (suc k) d (omega (arith, less))

keys_kept : (bytes more : List ℕ) (spots : List (ℕ × ℕ)) → All (IsSpotIn (length bytes)) spots → keys_in (bytes ++ more) spots ≡ keys_in bytes spots
keys_kept bytes more [] within = refl
keys_kept bytes more (spot ∷ spots) within =
    let here = within 0 spot (omega arith) in
    let one = slice_kept bytes more spot.0 spot.1 here.0 here.1 in
    let rest = keys_kept bytes more spots (all_tail (IsSpotIn (length bytes)) spot spots within) in
    cc

last_key : (bytes key : List ℕ) → slice_range (bytes ++ key) (length bytes) (length (bytes ++ key)) ≡ key
last_key bytes key =
    ap (take (length (bytes ++ key) - length bytes)) (drop-append_seam bytes key) ∙ take_all (length (bytes ++ key) - length bytes) key (omega (arith, length-append bytes key))

-- a key more
pub keys_more : (bytes key new : List ℕ) (spots now : List (ℕ × ℕ)) (start end : ℕ) → All (IsSpotIn (length bytes)) spots → new ≡ bytes ++ key → start ≡ length bytes → end ≡ length new → now ≡ spots ++ (start, end) ∷ []
    → keys_in new now ≡ keys_in bytes spots ++ key ∷ []
keys_more bytes key new spots now start end within grown begins ends is =
    rw (is, begins, ends, grown) (map-append (λ (spot : ℕ × ℕ). slice_range (bytes ++ key) spot.0 spot.1) spots ((length bytes, length (bytes ++ key)) ∷ [])
    ∙ ap (λ (ks : List (List ℕ)). ks ++ slice_range (bytes ++ key) (length bytes) (length (bytes ++ key)) ∷ []) (keys_kept bytes key spots within)
    ∙ ap (λ (k : List ℕ). keys_in bytes spots ++ k ∷ []) (last_key bytes key))

pub keys_stay : KeysStay
keys_stay bytes more spots within = keys_kept bytes more spots within

pub one_key_more : OneKeyMore
one_key_more bytes key spots within =
    keys_more bytes key (bytes ++ key) spots (spots ++ (length bytes, length (bytes ++ key)) ∷ []) (length bytes) (length (bytes ++ key)) within refl refl refl refl

wider : (a b : ℕ) (spots : List (ℕ × ℕ)) → a ≤ b → All (IsSpotIn a) spots → All (IsSpotIn b) spots
wider a b spots le within = λ k d less. let h = within k d less in (h.0, omega (arith, h.1))

only : {X : Type 0} (P : X → Type 0) (x : X) → P x → All P (x ∷ [])
only P x p zero d less = p
only P x p (suc k) d less = absurd (omega (arith, less))

-- one more key is the same
pub same_key_more : (xs ys : List (List ℕ)) (at : ℕ) → at < length xs → length xs ≡ length ys → slice_index_or xs at [] ≡ slice_index_or ys at [] → take at xs ≡ take at ys → take (at + 1) xs ≡ take (at + 1) ys
same_key_more xs ys at less long same so_far =
    take_more xs at [] less ∙ ap (λ (ks : List (List ℕ)). ks ++ get_or xs at [] ∷ []) so_far ∙ ap (λ (k : List ℕ). take at ys ++ k ∷ []) same ∙ sym (take_more ys at [] (omega (arith, less, long)))

-- what a comparison with Less tells
pub told_less : (o : Ordering) → false ≡ not (ordering_index o == 0) → is_lt o ≡ true
told_less Less e = refl
told_less Equal e = cc
told_less Greater e = cc
