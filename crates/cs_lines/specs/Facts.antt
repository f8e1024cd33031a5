-- Lines that were taken of an input. Crates above cite it.
use Rattle.std.specs.Prelude.{◌≢◌, ℕ, List, [], ◌∷◌, ◌++◌, Option, Some, None}
use Rattle.std.specs.List.{AllZip}
use Rattle.std.proofs.KnownBytes.{Consumes-nil}
use Rattle.std.proofs.lemmas.List.Elements.{All-nil}
use Rattle.cs_lines.specs.Lines.{lines_of}
use Rattle.cs_lines.specs.Reading.{AreTaken, StaysInLine}
use Rattle.cs_lines.specs.Served.{AreFirstLines}

pub first_taken : (input left : Option (List ℕ)) (lines : List (List ℕ)) → AreTaken input left lines → AreFirstLines input lines
first_taken None left lines taken = tt
first_taken (Some input) left lines taken = (lines_of taken.0, taken.2)

-- nothing is gone of a line
pub stays : (left : Option (List ℕ)) → StaysInLine left left
stays left = ([], Consumes-nil left, All-nil (λ x. x ≢ 10))

-- one more on both sides
pub zip_push : {A B : Type 0} (R : A → B → Type 0) (xs : List A) (ys : List B) (x : A) (y : B) → AllZip R xs ys → R x y → AllZip R (xs ++ x ∷ []) (ys ++ y ∷ [])
zip_push R [] [] x y all now = (now, tt)
zip_push R [] (b ∷ ys) x y all now = absurd all
zip_push R (a ∷ xs) [] x y all now = absurd all
zip_push R (a ∷ xs) (b ∷ ys) x y all now = (all.0, zip_push R xs ys x y all.1 now)
