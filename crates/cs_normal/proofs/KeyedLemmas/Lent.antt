-- A key at the front of a record or of a row.
use Rattle.std.proofs.Common.{◌≡◌, ◌∙◌, ℕ, ◌-◌, ◌≤◌, Bool, true, false, List, [], ◌∷◌, ◌++◌, length, map, take, refl, sym, ap, append_assoc, append-nil, length-append, arith}
use Rattle.std.proofs.lemmas.List.{take-append-le, take_all}
use Rattle.cs_value.specs.Catalog.{marked}
use Rattle.cs_value.specs.declared.value.Field.{Field}
use Rattle.cs_value.specs.declared.value.Field.TheVariants.{Is}
use Rattle.cs_record.specs.Spelling.{field, record_of}
use Rattle.cs_normal.specs.keyed.Changes.{key_bytes}
use Rattle.cs_normal.specs.keyed.NormalForm.{marked_fields}
use Rattle.cs_value.specs.declared.value.Value.{Value}

-- so much of the record is passed, and it is as much of the key
abbrev pub IsPassed : List Bool → List Field → List Bool → List Field → Type 0
IsPassed marks fields more_marks more =
    (taken : List ℕ)
    × (record_of fields ≡ taken ++ record_of more)
    × (key_bytes (marked_fields marks fields) ≡ taken ++ key_bytes (marked_fields more_marks more))

pub none_passed : (marks : List Bool) (fields : List Field) → IsPassed marks fields marks fields
none_passed marks fields = ([], refl, refl)

pub one_passed : (marks : List Bool) (fields : List Field) (rest_marks : List Bool) (rest : List Field) (mark : Bool) (more_marks : List Bool) (column : Field) (v : Value) (more : List Field)
    → rest_marks ≡ mark ∷ more_marks → rest ≡ column ∷ more → mark ≡ true → column ≡ Is v → IsPassed marks fields rest_marks rest → IsPassed marks fields more_marks more
unfolding marked_fields
one_passed marks fields rest_marks rest mark more_marks column v more marks_are rest_is marked defined passed =
    let taken : List ℕ = passed.0 in
    let first_is : rest ≡ Is v ∷ more = rest_is ∙ ap (λ (f : Field). f ∷ more) defined in
    let record_is : record_of fields ≡ taken ++ record_of (Is v ∷ more) = passed.1 ∙ ap (λ (fs : List Field). taken ++ record_of fs) first_is in
    let key_is : key_bytes (marked_fields marks fields) ≡ taken ++ key_bytes (marked_fields (true ∷ more_marks) (Is v ∷ more)) =
    passed.2
    ∙ ap (λ (fs : List Field). taken ++ key_bytes (marked_fields rest_marks fs)) first_is
    ∙ ap (λ (ms : List Bool). taken ++ key_bytes (marked_fields ms (Is v ∷ more))) (marks_are ∙ ap (λ (m : Bool). m ∷ more_marks) marked) in
    (taken ++ field (Is v), record_is ∙ sym (append_assoc taken (field (Is v)) (record_of more)), key_is ∙ sym (append_assoc taken (field (Is v)) (key_bytes (marked_fields more_marks more))))

-- where no column is left in the key, the key is what was passed
pub passed_key : (marks : List Bool) (fields : List Field) (rest_marks : List Bool) (rest : List Field) (bytes rest_bytes : List ℕ)
    → IsPassed marks fields rest_marks rest → marked_fields rest_marks rest ≡ [] → record_of fields ≡ bytes → record_of rest ≡ rest_bytes
    → take (length bytes - length rest_bytes) bytes ≡ key_bytes (marked_fields marks fields)
passed_key marks fields rest_marks rest bytes rest_bytes passed none bytes_are rest_are =
    let taken : List ℕ = passed.0 in
    let whole : bytes ≡ taken ++ rest_bytes = sym bytes_are ∙ passed.1 ∙ ap (λ (bs : List ℕ). taken ++ bs) rest_are in
    let key_is : key_bytes (marked_fields marks fields) ≡ taken = passed.2 ∙ ap (λ vs. taken ++ key_bytes vs) none ∙ append-nil taken in
    let long : length bytes - length rest_bytes ≡ length taken = omega (arith, ap (λ (bs : List ℕ). length bs) whole, length-append taken rest_bytes) in
    ap (λ (n : ℕ). take n bytes) long
    ∙ ap (λ (bs : List ℕ). take (length taken) bs) whole
    ∙ take-append-le (length taken) taken rest_bytes (omega arith)
    ∙ take_all (length taken) taken (omega arith)
    ∙ sym key_is

pub passed_within : (marks : List Bool) (fields : List Field) (rest_marks : List Bool) (rest : List Field) (bytes rest_bytes : List ℕ)
    → IsPassed marks fields rest_marks rest → record_of fields ≡ bytes → record_of rest ≡ rest_bytes → length rest_bytes ≤ length bytes
passed_within marks fields rest_marks rest bytes rest_bytes passed bytes_are rest_are =
    let whole : bytes ≡ passed.0 ++ rest_bytes = sym bytes_are ∙ passed.1 ∙ ap (λ (bs : List ℕ). passed.0 ++ bs) rest_are in
    omega (arith, ap (λ (bs : List ℕ). length bs) whole, length-append passed.0 rest_bytes)

pub no_marks : (fields : List Field) → marked_fields [] fields ≡ []
unfolding marked_fields
no_marks [] = refl
no_marks (f ∷ fields) = refl

pub no_fields : (marks : List Bool) → marked_fields marks [] ≡ []
unfolding marked_fields
no_fields [] = refl
no_fields (m ∷ marks) = refl

-- the key of a row is that of its fields
pub row_key : (marks : List Bool) (row : List Value) → marked_fields marks (map Is row) ≡ marked marks row
unfolding marked_fields
row_key [] row = no_marks (map Is row)
row_key (m ∷ marks) [] = refl
row_key (true ∷ marks) (v ∷ row) = ap (λ (vs : List Value). v ∷ vs) (row_key marks row)
row_key (false ∷ marks) (v ∷ row) = row_key marks row
