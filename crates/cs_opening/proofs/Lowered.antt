-- A version in range that is spelled as any other.
use Rattle.std.proofs.Common.{◌≡◌, ◌<◌, ◌^◌, ◌%◌, ℕ, zero, suc, [], ◌∷◌, arith, get_or, refl}
use Rattle.std.specs.Int.{byte_at, bytes_high_first, from_be_bytes, to_be_bytes, w64}
use Rattle.std.proofs.Math.Nat.{mod-lt}
use Rattle.std.proofs.lemmas.Nat.{be_bytes_8}
use Rattle.cs_wire.specs.Numbers.{eight_bytes}

a_byte : (n : ℕ) → n % 256 < 256
a_byte n = mod-lt n (omega arith)

each_byte : (k n i : ℕ) → get_or (bytes_high_first k n) i 0 < 256
each_byte zero n i = omega arith
each_byte (suc zero) n zero = a_byte n
each_byte (suc (suc k)) n zero = a_byte _
each_byte (suc k) n (suc i) = each_byte k n i

in_range : (a b c d e f g h : ℕ) → a < 256 → b < 256 → c < 256 → d < 256 → e < 256 → f < 256 → g < 256 → h < 256 → from_be_bytes w64 (a ∷ b ∷ c ∷ d ∷ e ∷ f ∷ g ∷ h ∷ []) < 2 ^ 64
in_range a b c d e f g h p q r s t u v w = omega (arith, p, q, r, s, t, u, v, w)

-- the number that the eight bytes are
pub low : ℕ → ℕ
low number = from_be_bytes w64 (to_be_bytes w64 number)

pub low_same : (number : ℕ) → eight_bytes (low number) ≡ eight_bytes number
unfolding low eight_bytes
low_same number = be_bytes_8 (to_be_bytes w64 number) (from_be_bytes w64 (to_be_bytes w64 number)) refl (each_byte 8 number) refl

pub low_fits : (number : ℕ) → low number < 2 ^ 64
unfolding low
low_fits number =
    in_range (byte_at 7 number) (byte_at 6 number) (byte_at 5 number) (byte_at 4 number) (byte_at 3 number) (byte_at 2 number) (byte_at 1 number) (byte_at 0 number)
    (a_byte _) (a_byte _) (a_byte _) (a_byte _) (a_byte _) (a_byte _) (a_byte _) (a_byte _)
