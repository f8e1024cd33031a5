-- Numbers that are bytes, as the laws speak of whatever a reader may be given. Crates above cite it.
use Rattle.std.specs.Prelude.{◌≡◌, ℕ, zero, suc, ◌<◌, List, [], ◌∷◌, ◌++◌, get_or}

-- each number is below 256
abbrev pub AreBytes : List ℕ → Type 0
AreBytes bytes = (i : ℕ) → get_or bytes i 0 < 256

-- what stands behind a front of bytes are bytes
pub bytes_behind : (front rest : List ℕ) → AreBytes (front ++ rest) → AreBytes rest
bytes_behind [] rest are = are
bytes_behind (b ∷ front) rest are = bytes_behind front rest (λ i. are (suc i))

pub bytes_rest : (bytes front rest : List ℕ) → bytes ≡ front ++ rest → AreBytes bytes → AreBytes rest
bytes_rest bytes front rest e are = bytes_behind front rest (rw e at are)

-- a byte before bytes
pub byte_before : (byte : ℕ) (bytes : List ℕ) → byte < 256 → AreBytes bytes → AreBytes (byte ∷ bytes)
byte_before byte bytes small are zero = small
byte_before byte bytes small are (suc i) = are i
