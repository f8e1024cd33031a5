-- Texts and bytes as words.
use Rattle.std.specs.Prelude.{ℕ, ◌+◌, ◌-◌, ◌*◌, ◌==◌, ◌&&◌, nat_le, if◌then◌else◌, List, [], ◌∷◌, Option, Some, None}
use Rattle.std.specs.Str.{is_utf8}
use Rattle.cs_text.specs.Text.{is_plain}

-- the value of a hex digit, of which the letters begin with this one
abbrev pub digit_value : ℕ → ℕ → Option ℕ
digit_value ten digit =
    if nat_le 0x30 digit && nat_le digit 0x39 then Some (digit - 0x30)
    else if nat_le ten digit && nat_le digit (ten + 5) then Some (digit - ten + 10)
    else None

-- the byte of two digits, the high one first
abbrev pub byte_in : Option ℕ → Option ℕ → Option ℕ
byte_in (Some high) (Some low) = Some (16 * high + low)
byte_in (Some high) None = None
byte_in None low = None

-- something in front of a list, where both are there
abbrev pub onto : {A : Type 0} → Option A → Option (List A) → Option (List A)
onto (Some one) (Some more) = Some (one ∷ more)
onto (Some one) None = None
onto None more = None

-- a byte that stands for itself
abbrev pub plain_in : ℕ → Option ℕ
plain_in byte = if is_plain byte then Some byte else None

-- the bytes that a text with escapes spells: `%` and two upper case hex digits spell any byte, and a plain byte spells itself
abbrev pub unescaped : List ℕ → Option (List ℕ)
unescaped [] = Some []
unescaped (a ∷ []) = onto (plain_in a) (Some [])
unescaped (a ∷ b ∷ []) = onto (plain_in a) (unescaped (b ∷ []))
unescaped (a ∷ b ∷ c ∷ text) =
    if a == 0x25 then onto (byte_in (digit_value 0x41 b) (digit_value 0x41 c)) (unescaped text)
    else onto (plain_in a) (unescaped (b ∷ c ∷ text))

-- the same bytes where they are UTF-8
abbrev pub utf8_of : Option (List ℕ) → Option (List ℕ)
utf8_of None = None
utf8_of (Some bytes) = if is_utf8 bytes then Some bytes else None

-- the text that a word with escapes spells
abbrev pub text_in : List ℕ → Option (List ℕ)
text_in word = utf8_of (unescaped word)

-- the bytes that lower case hex spells
abbrev pub bytes_in : List ℕ → Option (List ℕ)
bytes_in [] = Some []
bytes_in (a ∷ []) = None
bytes_in (a ∷ b ∷ hex) = onto (byte_in (digit_value 0x61 a) (digit_value 0x61 b)) (bytes_in hex)
