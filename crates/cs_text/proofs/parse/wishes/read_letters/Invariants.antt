-- The wishes so far are what the letters so far spell.
use Rattle.std.proofs.Common.{◌≡◌, List, ◌++◌, drop}
use Rattle.std.specs.Prelude.{option_map}
use Rattle.cs_conflict.specs.declared.wish.Wish.{Wish}
use Rattle.cs_text.specs.parse.Wishes.{letters_in}
use Rattle.cs_text.proofs.parse.wishes.read_letters.Given as goal

abbrev pub invariant-loop-letter : goal.invariant-loop-letter
invariant-loop-letter l = letters_in l.letters ≡ option_map {U = List Wish} (λ more. l.wishes.items ++ more) (letters_in (drop l.letter-index l.letters))
