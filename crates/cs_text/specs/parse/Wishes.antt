-- Wishes as a word.
use Rattle.std.specs.Prelude.{ℕ, ◌==◌, if◌then◌else◌, List, [], ◌∷◌, Option, Some, None, codes}
use Rattle.std.specs.Str.{bytes_eq}
use Rattle.cs_conflict.specs.declared.wish.Wish.{Wish}
use Rattle.cs_conflict.specs.declared.wish.Wish.TheVariants.{Keep, Take, Stop}
use Rattle.cs_text.specs.parse.Texts.{onto}

-- `k`, `t` or `s`
abbrev pub wish_in : ℕ → Option Wish
wish_in letter =
    if letter == 0x6b then Some Keep
    else if letter == 0x74 then Some Take
    else if letter == 0x73 then Some Stop
    else None

abbrev pub letters_in : List ℕ → Option (List Wish)
letters_in [] = Some []
letters_in (letter ∷ letters) = onto (wish_in letter) (letters_in letters)

-- a letter a wish, or `-` for none; the empty word spells none
abbrev pub wishes_in : List ℕ → Option (List Wish)
wishes_in [] = None
wishes_in (letter ∷ letters) = if bytes_eq (letter ∷ letters) (codes "-") then Some [] else letters_in (letter ∷ letters)
