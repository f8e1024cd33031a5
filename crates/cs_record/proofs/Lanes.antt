-- From the mask of one load to the bytes that are ASCII.
use Rattle.std.proofs.Common.{◌≡◌, ℕ, zero, suc, ◌+◌, ◌-◌, ◌%◌, ◌^◌, ◌<◌, ◌≤◌, leb, cond, not, List, [], ◌∷◌, map, length, take, drop, get_or, replicate, w8, refl, ap, ◌∙◌, arith, leb-false, inl, inr}
use Rattle.std.proofs.lemmas.Bool.{cases_lt}
use Rattle.std.proofs.lemmas.List.{get_or-drop, get_or-take, get_or_past}
use Rattle.std.proofs.lemmas.Simd.{bitmask_splat, length-chunk, none_from_empty_mask, run_in_chunk_fails, run_in_chunk_le, trailing_mask_l}
use Rattle.std.specs.List.{prefix_len}
use lib.Count.{count_trailing_zeros}
use lib.Lanes.{zip2, mask_l, top}

-- lanes that are compared with one number, which stands first
compared : (h : ℕ → ℕ → ℕ) (xs : List ℕ) (n y : ℕ) → length xs ≡ n → zip2 h (replicate n y) xs ≡ zip2 (λ a b. h b a) xs (replicate n y)
compared h [] zero y e = refl
compared h [] (suc n) y e = absurd (omega arith)
compared h (x ∷ xs) zero y e = absurd (omega arith)
compared h (x ∷ xs) (suc n) y e = ap (λ l. h y x ∷ l) (compared h xs n y (omega arith))

-- the mask of the lanes that hold no ASCII byte
abbrev wide : List ℕ → ℕ
wide lanes = mask_l (map (top 7) (zip2 (λ a b. cond (leb a b) 255 0) (replicate 32 128) lanes)) % 2 ^ 64

module _ (bytes : List ℕ) (room : 32 ≤ length bytes) where
  abbrev lanes : List ℕ
  lanes = take 32 bytes

  long : length lanes ≡ 32
  long = length-chunk 0 32 bytes room

  wide_is : wide lanes ≡ mask_l (map (λ x. leb 128 x) lanes)
  wide_is =
      ap (λ l. mask_l (map (top 7) l) % 2 ^ 64) (compared (λ a b. cond (leb a b) 255 0) lanes 32 128 long)
      ∙ bitmask_splat w8 (λ a b. leb b a) lanes 32 128 long (omega arith)

  pub none_wide : wide lanes ≡ 0 → (at : ℕ) → at < 32 → get_or bytes at 0 < 128
  none_wide none at within =
      let narrow = none_from_empty_mask (λ x. leb 128 x) bytes 0 32 0 room (omega (arith, wide_is)) at (omega arith) within in
      leb-false 128 (get_or bytes at 0) narrow

  module _ (some : 0 < wide lanes) where
    found : count_trailing_zeros 64 (wide lanes) ≡ prefix_len (λ x. not (leb 128 x)) lanes
    found = ap (λ m. count_trailing_zeros 64 m) wide_is ∙ trailing_mask_l (λ x. leb 128 x) 64 lanes (omega (arith, long)) (omega (arith, wide_is))

    pub front_le : count_trailing_zeros 64 (wide lanes) ≤ 32
    front_le = run_in_chunk_le (λ x. leb 128 x) bytes 0 32 (count_trailing_zeros 64 (wide lanes)) 0 room found

    pub front_narrow : (at : ℕ) → at < count_trailing_zeros 64 (wide lanes) → get_or bytes at 0 < 128
    front_narrow at within =
        let narrow = run_in_chunk_fails (λ x. leb 128 x) bytes 0 32 (count_trailing_zeros 64 (wide lanes)) 0 room found at (omega arith) (omega arith) in
        leb-false 128 (get_or bytes at 0) narrow

-- a text at the front of bytes whose first are ASCII
pub ascii_text : (text bytes : List ℕ) (front : ℕ) → text ≡ take (length text) bytes → ((at : ℕ) → at < front → get_or bytes at 0 < 128) → length text ≤ front → (at : ℕ) → get_or text at 0 < 128
ascii_text text bytes front is narrow fits at =
    elim (cases_lt at (length text)) [
      | inl within ↦
          let there : get_or text at 0 ≡ get_or bytes at 0 = ap (λ l. get_or l at 0) is ∙ get_or-take (length text) bytes at 0 within in
          omega (arith, there, narrow at (omega arith))
      | inr past ↦ omega (arith, get_or_past text at 0 (omega arith))
    ]

-- ASCII bytes at the front, and behind them more
pub both_narrow : (bytes : List ℕ) (front more : ℕ) → ((at : ℕ) → at < front → get_or bytes at 0 < 128) → ((at : ℕ) → at < more → get_or (drop front bytes) at 0 < 128) → (at : ℕ) → at < front + more → get_or bytes at 0 < 128
both_narrow bytes front more narrow behind at within =
    elim (cases_lt at front) [
      | inl low ↦ narrow at low
      | inr high ↦
          let there : get_or (drop front bytes) (at - front) 0 ≡ get_or bytes at 0 = get_or-drop front bytes (at - front) 0 ∙ ap (λ i. get_or bytes i 0) (omega arith) in
          omega (arith, there, behind (at - front) (omega arith))
    ]
