-- Bytes that begin with a number of columns.
use Rattle.std.proofs.Common.{◌≡◌, ℕ, zero, suc, ◌≤◌, List, [], ◌∷◌, ◌++◌, length, take, drop, sym, ap, ◌∙◌, length-take-le, lit<}
use Rattle.std.specs.Int.{w32, from_be_bytes}
use Rattle.std.proofs.lemmas.Nat.{be_bytes_4}
use Rattle.std.proofs.lemmas.List.{take-append-drop}
use Rattle.cs_varint.specs.Bytes.{AreBytes}
use Rattle.cs_store.specs.log.Entry.{widen_spelling}

small_take : (n : ℕ) (bytes : List ℕ) → AreBytes bytes → AreBytes (take n bytes)
small_take zero bytes small i = lit< tt
small_take (suc n) [] small i = lit< tt
small_take (suc n) (b ∷ bytes) small zero = small zero
small_take (suc n) (b ∷ bytes) small (suc i) = small_take n bytes (λ j. small (suc j)) i

pub four_front : (bytes front : List ℕ) (number : ℕ) → front ≡ take 4 bytes → 4 ≤ length bytes → AreBytes bytes → number ≡ from_be_bytes w32 front → bytes ≡ widen_spelling (drop 4 bytes) number
four_front bytes front number is long small read =
    let back : number ≡ from_be_bytes w32 (take 4 bytes) = read ∙ ap (from_be_bytes w32) is in
    sym (take-append-drop 4 bytes) ∙ ap (λ (f : List ℕ). f ++ drop 4 bytes) (sym (be_bytes_4 (take 4 bytes) number (length-take-le 4 bytes long) (small_take 4 bytes small) back))
