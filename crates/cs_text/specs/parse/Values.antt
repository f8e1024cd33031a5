-- Values and fields as words.
use Rattle.std.specs.Prelude.{ℕ, ◌==◌, if◌then◌else◌, List, [], ◌∷◌, Option, Some, None, option_map, codes}
use Rattle.std.specs.Str.{bytes_eq}
use Rattle.cs_value.specs.declared.value.Value.{Value}
use Rattle.cs_value.specs.declared.value.Value.TheVariants.{Null, Int, Text, Blob}
use Rattle.cs_value.specs.declared.value.Field.{Field}
use Rattle.cs_value.specs.declared.value.Field.TheVariants.{Undefined, Is}
use Rattle.cs_text.specs.parse.Numbers.{signed_in}
use Rattle.cs_text.specs.parse.Texts.{bytes_in, onto, text_in}

-- what follows a front, where the word begins with it
abbrev pub behind : List ℕ → List ℕ → Option (List ℕ)
behind [] word = Some word
behind (byte ∷ front) [] = None
behind (byte ∷ front) (other ∷ word) = if other == byte then behind front word else None

-- the value that a word spells, by what follows `t=` and what follows `x=`
abbrev pub tagged_in : Option (List ℕ) → Option (List ℕ) → List ℕ → Option Value
tagged_in (Some text) hex word = option_map Text (text_in text)
tagged_in None (Some hex) word = option_map Blob (bytes_in hex)
tagged_in None None word = option_map Int (signed_in word)

-- `null`, a decimal number, `t=` and a text, or `x=` and lower case hex
abbrev pub value_in : List ℕ → Option Value
value_in word =
    if bytes_eq word (codes "null") then Some Null
    else tagged_in (behind (codes "t=") word) (behind (codes "x=") word) word

-- `-` for undefined, or a value
abbrev pub field_in : List ℕ → Option Field
field_in word = if bytes_eq word (codes "-") then Some Undefined else option_map Is (value_in word)

-- words, a value each
abbrev pub values_in : List (List ℕ) → Option (List Value)
values_in [] = Some []
values_in (word ∷ words) = onto (value_in word) (values_in words)
