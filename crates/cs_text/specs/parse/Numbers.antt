-- Numbers as words.
use Rattle.std.specs.Prelude.{◌≡◌, ℕ, ◌+◌, ◌^◌, ◌&&◌, nat_lt, Bool, false, if◌then◌else◌, List, [], ◌∷◌, Option, Some, None, ℤ, pos, neg_ℤ, drop}
use Rattle.std.specs.Str.{all_ascii_digits}
use Rattle.std.specs.Str.Parse.{digits_value, starts_with_minus}

-- one decimal digit or more, and nothing else
abbrev pub is_numeral : List ℕ → Bool
is_numeral [] = false
is_numeral (digit ∷ digits) = all_ascii_digits (digit ∷ digits)

-- the number that decimal digits write, where it is below this one; zeros may stand in front
abbrev pub number_below : ℕ → List ℕ → Option ℕ
number_below most word =
    if is_numeral word && nat_lt (digits_value 10 word) most then Some (digits_value 10 word) else None

-- a number without a sign, of 64 bits
abbrev pub unsigned_in : List ℕ → Option ℕ
unsigned_in word = number_below (2 ^ 64) word

-- the same of 32 bits
abbrev pub small_in : List ℕ → Option ℕ
small_in word = number_below (2 ^ 32) word

-- the number that digits write behind a minus
abbrev pub negative : Option ℕ → Option ℤ
negative (Some number) = Some (neg_ℤ (pos number))
negative None = None

abbrev pub positive : Option ℕ → Option ℤ
positive (Some number) = Some (pos number)
positive None = None

-- a number of 64 bits that may have a minus in front, and no plus
abbrev pub signed_in : List ℕ → Option ℤ
signed_in word =
    if starts_with_minus word then negative (number_below (2 ^ 63 + 1) (drop 1 word)) else positive (number_below (2 ^ 63) word)

-- a word that spells no number, of whatever width
abbrev pub IsNoNumber : List ℕ → Type 0
IsNoNumber word = ((most : ℕ) → number_below most word ≡ None) × (signed_in word ≡ None)
