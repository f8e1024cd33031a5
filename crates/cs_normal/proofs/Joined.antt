-- Pieces put one after another.
use Rattle.std.proofs.Common.{◌≡◌, ℕ, zero, suc, ◌+◌, ◌≤◌, ◌<◌, List, [], ◌∷◌, ◌++◌, length, take, drop, get_or, sym, ap, ◌∙◌, append_assoc, append-nil, arith}
use Rattle.std.proofs.lemmas.List.{length-append, length-drop, length-take-le, take_more}
use Rattle.std.proofs.lemmas.List.Concat.{flat_map-append}
use Rattle.std.proofs.lemmas.Slice.{take-put_mid, drop-put_mid}
use borrow.Rule.Slice.PartMut.{put_mid, same_len_mid}
use Rattle.cs_normal.specs.Joined.{joined}

-- one piece more
pub joined_more : (pieces : List (List ℕ)) (at : ℕ) (default : List ℕ) → at < length pieces → joined (take (at + 1) pieces) ≡ joined (take at pieces) ++ get_or pieces at default
joined_more pieces at default within =
    ap joined (take_more pieces at default within) ∙ flat_map-append (λ (piece : List ℕ). piece) (take at pieces) (get_or pieces at default ∷ [])
    ∙ ap (λ (last : List ℕ). joined (take at pieces) ++ last) (append-nil (get_or pieces at default))

-- the first pieces are no longer than all
pub joined_le : (pieces : List (List ℕ)) (count : ℕ) → length (joined (take count pieces)) ≤ length (joined pieces)
joined_le [] zero = omega arith
joined_le [] (suc count) = omega arith
joined_le (piece ∷ pieces) zero = omega arith
joined_le (piece ∷ pieces) (suc count) =
    omega (arith, joined_le pieces count, length-append piece (joined (take count pieces)), length-append piece (joined pieces))

-- two parts put one behind the other, into places of their lengths
module _ (out one two both : List ℕ) (at some middle more : ℕ)
    (whole : both ≡ one ++ two) (room : at + length both ≤ length out)
    (first : some ≡ length one) (there : middle ≡ at + length one) (last : more ≡ length two) where
  abbrev after_one : List ℕ
  after_one = put_mid at some out one

  long : length both ≡ length one + length two
  long = ap length whole ∙ length-append one two

  same_length : length after_one ≡ length out
  same_length = same_len_mid at some out one (sym first ∙ sym (length-take-le some (drop at out) (omega (arith, long, length-drop at out))))

  pub stand_behind : take (at + length both) (put_mid middle more after_one two) ≡ take at out ++ both
  stand_behind =
      take-put_mid middle more after_one two (at + length both) (omega (arith, long)) (omega (arith, long, same_length))
      ∙ ap (λ (front : List ℕ). front ++ two) (take-put_mid at some out one middle there (omega (arith, long)))
      ∙ append_assoc (take at out) one two ∙ ap (λ (put : List ℕ). take at out ++ put) (sym whole)

  pub others_stay : (behind : ℕ) → at + length both ≤ behind → drop behind (put_mid middle more after_one two) ≡ drop behind out
  others_stay behind past =
      drop-put_mid middle more after_one two behind (omega (arith, long)) (omega (arith, long, same_length)) (sym last)
      ∙ drop-put_mid at some out one behind (omega (arith, long)) (omega (arith, long)) (sym first)
