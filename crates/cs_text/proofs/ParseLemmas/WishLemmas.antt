-- Wishes, letter by letter.
use Rattle.std.proofs.Common.{◌≡◌, ℕ, ◌+◌, ◌<◌, ◌≤◌, List, [], ◌∷◌, ◌++◌, length, drop, get_or, sym, ap, ◌∙◌, append-nil}
use Rattle.std.specs.Prelude.{Some, None, option_map}
use Rattle.std.proofs.lemmas.List.{at_drop_more, at_drop_all}
use Rattle.cs_conflict.specs.declared.wish.Wish.{Wish}
use Rattle.cs_text.specs.parse.Texts.{onto}
use Rattle.cs_text.specs.parse.Wishes.{letters_in, wish_in}
use Rattle.cs_text.proofs.ParseLemmas.TextLemmas.{list_more, onto_some}

-- one more letter
pub letters_more : (letters : List ℕ) (i letter : ℕ) (wishes : List Wish) (wish : Wish) → i < length letters → letter ≡ get_or letters i 0 → Some wish ≡ wish_in letter
    → letters_in letters ≡ option_map {U = List Wish} (λ more. wishes ++ more) (letters_in (drop i letters))
    → letters_in letters ≡ option_map {U = List Wish} (λ more. (wishes ++ wish ∷ []) ++ more) (letters_in (drop (i + 1) letters))
letters_more letters i letter wishes wish lt is spells so_far =
    list_more wishes wish (letters_in letters) (letters_in (drop i letters)) (letters_in (drop (i + 1) letters)) so_far
    (at_drop_more letters_in letters i 0 lt ∙ ap (λ w. onto w (letters_in (drop (i + 1) letters))) (ap wish_in (sym is) ∙ sym spells) ∙ onto_some wish (letters_in (drop (i + 1) letters)))

pub letters_none : (letters : List ℕ) (i letter : ℕ) (wishes : List Wish) → i < length letters → letter ≡ get_or letters i 0 → None ≡ wish_in letter
    → letters_in letters ≡ option_map {U = List Wish} (λ more. wishes ++ more) (letters_in (drop i letters)) → None ≡ letters_in letters
letters_none letters i letter wishes lt is spells so_far =
    sym (so_far ∙ ap (option_map (λ more. wishes ++ more)) (at_drop_more letters_in letters i 0 lt ∙ ap (λ w. onto w (letters_in (drop (i + 1) letters))) (ap wish_in (sym is) ∙ sym spells)))

pub letters_all : (letters : List ℕ) (i : ℕ) (wishes : List Wish) → length letters ≤ i
    → letters_in letters ≡ option_map {U = List Wish} (λ more. wishes ++ more) (letters_in (drop i letters)) → Some wishes ≡ letters_in letters
letters_all letters i wishes le so_far =
    sym (so_far ∙ ap (option_map (λ more. wishes ++ more)) (at_drop_all letters_in letters i le) ∙ ap Some (append-nil wishes))
