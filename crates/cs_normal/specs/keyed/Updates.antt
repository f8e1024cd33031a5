-- What an update keeps of a row, and which keys have spellings. Crates above cite it.
use Rattle.std.proofs.Common.{◌≡◌, ℕ, suc, Bool, true, false, List, [], ◌∷◌, length, refl, sym, ap, ◌∙◌}
use Rattle.std.specs.List.{AllByRecursion}
use Rattle.cs_value.specs.Catalog.{marked}
use Rattle.cs_value.specs.Facts.{head_same, tail_same}
use Rattle.cs_value.specs.declared.value.Value.{Value}
use Rattle.cs_value.specs.declared.value.Field.{Field}
use Rattle.cs_value.specs.declared.value.Field.TheVariants.{Undefined, Is}
use Rattle.cs_record.specs.Spelling.{Fits}
use Rattle.cs_change.specs.Columns.{set_columns}
use Rattle.cs_change.specs.Spelling.{AreUpdateColumns}
use Rattle.cs_normal.specs.keyed.Changes.{IsSpelled}
use Rattle.cs_normal.specs.keyed.NormalForm.{marked_fields}

-- an update of a key leaves the key
pub keeps_key : (marks : List Bool) (old new : List Field) (row : List Value) → AreUpdateColumns marks old new
    → marked_fields marks old ≡ marked marks row → marked marks (set_columns new row) ≡ marked marks row
unfolding marked_fields set_columns
keeps_key [] old new row columns same = refl
keeps_key (mark ∷ marks) [] new row columns same = absurd columns
keeps_key (mark ∷ marks) (o ∷ old) [] row columns same = absurd columns
keeps_key (mark ∷ marks) (o ∷ old) (n ∷ new) [] columns same = refl
keeps_key (true ∷ marks) (Is u ∷ old) (Undefined ∷ new) (v ∷ row) columns same =
    ap (λ more. v ∷ more) (keeps_key marks old new row columns.1 (tail_same same))
keeps_key (true ∷ marks) (Is u ∷ old) (Is w ∷ new) (v ∷ row) columns same =
    ap (λ first. first ∷ marked marks (set_columns new row)) (sym columns.0 ∙ head_same same)
    ∙ ap (λ more. v ∷ more) (keeps_key marks old new row columns.1 (tail_same same))
keeps_key (true ∷ marks) (Undefined ∷ old) (n ∷ new) (v ∷ row) columns same = absurd columns.0
keeps_key (false ∷ marks) (o ∷ old) (n ∷ new) (v ∷ row) columns same = keeps_key marks old new row columns.1 same

pub keeps_width : (new : List Field) (row : List Value) → length (set_columns new row) ≡ length row
unfolding set_columns
keeps_width [] row = refl
keeps_width (n ∷ new) [] = refl
keeps_width (n ∷ new) (v ∷ row) = ap suc (keeps_width new row)

-- the key of a row, and that of an update, can be spelled
pub marked_spelled : (marks : List Bool) (row : List Value) → IsSpelled row → IsSpelled (marked marks row)
marked_spelled [] row fits = tt
marked_spelled (mark ∷ marks) [] fits = tt
marked_spelled (true ∷ marks) (v ∷ row) fits = (fits.0, marked_spelled marks row fits.1)
marked_spelled (false ∷ marks) (v ∷ row) fits = marked_spelled marks row fits.1

pub old_spelled : (marks : List Bool) (old new : List Field) → AreUpdateColumns marks old new → AllByRecursion Fits old → IsSpelled (marked_fields marks old)
unfolding marked_fields
old_spelled [] [] [] columns fits = tt
old_spelled [] (o ∷ old) new columns fits = tt
old_spelled [] [] (n ∷ new) columns fits = tt
old_spelled (mark ∷ marks) [] new columns fits = absurd columns
old_spelled (mark ∷ marks) (o ∷ old) [] columns fits = absurd columns
old_spelled (true ∷ marks) (Is u ∷ old) (n ∷ new) columns fits = (fits.0, old_spelled marks old new columns.1 fits.1)
old_spelled (true ∷ marks) (Undefined ∷ old) (n ∷ new) columns fits = absurd columns.0
old_spelled (false ∷ marks) (o ∷ old) (n ∷ new) columns fits = old_spelled marks old new columns.1 fits.1
