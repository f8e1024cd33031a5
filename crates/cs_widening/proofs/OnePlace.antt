-- A place of a table that gets more columns.
use Rattle.std.proofs.Common.{◌≡◌, ℕ, zero, suc, ◌-◌, Bool, true, false, List, [], ◌∷◌, ◌++◌, length, replicate, Some, None, refl, sym, ap, ◌∙◌, arith, length-append}
use Rattle.std.proofs.lemmas.List.{length-replicate}
use Rattle.cs_value.specs.Catalog.{marked}
use Rattle.cs_value.specs.Key.{HasKey}
use Rattle.cs_value.specs.Same.{same_row, same_value}
use Rattle.cs_value.specs.Facts.{same_row-refl}
use Rattle.cs_value.specs.declared.value.Value.{Value}
use Rattle.cs_value.specs.declared.value.Value.TheVariants.{Null}
use Rattle.cs_value.specs.declared.value.Field.{Field}
use Rattle.cs_value.specs.declared.value.Field.TheVariants.{Undefined}
use Rattle.cs_change.specs.Facts.{conjoin}
use Rattle.cs_change.specs.Net.{net, new_record, old_record}
use Rattle.cs_value.specs.Facts.{by_test}
use Rattle.cs_widening.specs.Laws.{NetWidens, WidenedFits}
use Rattle.cs_widening.specs.Widening.{up_to, widened_fields, widened_row}

-- ---- so many more columns

abbrev more_marks : ℕ → List Bool → List Bool
more_marks n marks = marks ++ replicate n false

abbrev more_nulls : ℕ → List Value → List Value
more_nulls n row = row ++ replicate n Null

abbrev pub more_undefined : ℕ → List Field → List Field
more_undefined n fields = fields ++ replicate n Undefined

none_marked : (n : ℕ) → marked (replicate n false) (replicate n Null) ≡ []
none_marked zero = refl
none_marked (suc n) = none_marked n

same_marked : (n : ℕ) (marks : List Bool) (row : List Value) → length row ≡ length marks → marked (more_marks n marks) (more_nulls n row) ≡ marked marks row
same_marked n [] [] w = none_marked n
same_marked n (true ∷ marks) (v ∷ row) w = conjoin refl (same_marked n marks row (omega (arith, w)))
same_marked n (false ∷ marks) (v ∷ row) w = same_marked n marks row (omega (arith, w))
same_marked n [] (v ∷ row) w = absurd (omega (arith, w))
same_marked n (mark ∷ marks) [] w = absurd (omega (arith, w))

nulls_old : (n : ℕ) → old_record (replicate n false) (replicate n Null) (replicate n Null) ≡ replicate n Undefined
unfolding old_record same_value
nulls_old zero = refl
nulls_old (suc n) = conjoin refl (nulls_old n)

nulls_new : (n : ℕ) → new_record (replicate n Null) (replicate n Null) ≡ replicate n Undefined
unfolding new_record same_value
nulls_new zero = refl
nulls_new (suc n) = conjoin refl (nulls_new n)

old_more : (n : ℕ) (marks : List Bool) (b x : List Value) → length b ≡ length marks → length x ≡ length marks → old_record (more_marks n marks) (more_nulls n b) (more_nulls n x) ≡ more_undefined n (old_record marks b x)
unfolding old_record
old_more n [] [] [] h i = nulls_old n
old_more n (m ∷ marks) (b ∷ bs) (x ∷ xs) h i = conjoin refl (old_more n marks bs xs (omega (arith, h)) (omega (arith, i)))
old_more n [] (b ∷ bs) xs h i = absurd (omega (arith, h))
old_more n [] [] (x ∷ xs) h i = absurd (omega (arith, i))
old_more n (m ∷ marks) [] xs h i = absurd (omega (arith, h))
old_more n (m ∷ marks) (b ∷ bs) [] h i = absurd (omega (arith, i))

new_more : (n : ℕ) (b x : List Value) → length b ≡ length x → new_record (more_nulls n b) (more_nulls n x) ≡ more_undefined n (new_record b x)
unfolding new_record
new_more n [] [] h = nulls_new n
new_more n (b ∷ bs) (x ∷ xs) h = conjoin refl (new_more n bs xs (omega (arith, h)))
new_more n [] (x ∷ xs) h = absurd (omega (arith, h))
new_more n (b ∷ bs) [] h = absurd (omega (arith, h))

same_more : (n : ℕ) (b x : List Value) → length b ≡ length x → same_row (more_nulls n b) (more_nulls n x) ≡ same_row b x
unfolding same_row
same_more n [] [] h = same_row-refl (replicate n Null)
same_more n (b ∷ bs) (x ∷ xs) h = let rest = same_more n bs xs (omega (arith, h)) in rw rest refl
same_more n [] (x ∷ xs) h = absurd (omega (arith, h))
same_more n (b ∷ bs) [] h = absurd (omega (arith, h))

length_old : (marks : List Bool) (b x : List Value) → length b ≡ length marks → length x ≡ length marks → length (old_record marks b x) ≡ length marks
unfolding old_record
length_old [] [] [] h i = refl
length_old (m ∷ marks) (b ∷ bs) (x ∷ xs) h i = ap suc (length_old marks bs xs (omega (arith, h)) (omega (arith, i)))
length_old [] (b ∷ bs) xs h i = absurd (omega (arith, h))
length_old [] [] (x ∷ xs) h i = absurd (omega (arith, i))
length_old (m ∷ marks) [] xs h i = absurd (omega (arith, h))
length_old (m ∷ marks) (b ∷ bs) [] h i = absurd (omega (arith, i))

length_new : (b x : List Value) → length b ≡ length x → length (new_record b x) ≡ length b
unfolding new_record
length_new [] [] h = refl
length_new (b ∷ bs) (x ∷ xs) h = ap suc (length_new bs xs (omega (arith, h)))
length_new [] (x ∷ xs) h = absurd (omega (arith, h))
length_new (b ∷ bs) [] h = absurd (omega (arith, h))

-- ---- up to a width: as many more as the marks lack

up_as : {A : Type 0} (width n : ℕ) (a : A) (list : List A) → width - length list ≡ n → up_to width a list ≡ list ++ replicate n a
up_as width n a list e = ap (λ (k : ℕ). list ++ replicate k a) e

row_as : (width : ℕ) (marks : List Bool) (row : List Value) → length row ≡ length marks → widened_row width row ≡ more_nulls (width - length marks) row
row_as width marks row w = up_as width (width - length marks) Null row (ap (λ (k : ℕ). width - k) w)

pub fields_as : (width : ℕ) (marks : List Bool) (fields : List Field) → length fields ≡ length marks → widened_fields width fields ≡ more_undefined (width - length marks) fields
fields_as width marks fields w = up_as width (width - length marks) Undefined fields (ap (λ (k : ℕ). width - k) w)

pub row_fits_wide : (width : ℕ) (marks : List Bool) (key row : List Value) → HasKey marks key row → HasKey (up_to width false marks) key (widened_row width row)
row_fits_wide width marks key row has =
    let n = width - length marks in
    rw (row_as width marks row has.wide) (record {
      wide = length-append row (replicate n Null) ∙ omega (arith, has.wide, length-replicate n Null, length-replicate n false, length-append marks (replicate n false));
      keyed = same_marked n marks row has.wide ∙ has.keyed;
    })

pub widened_fits : WidenedFits
widened_fits width marks key None fits = tt
widened_fits width marks key (Some row) fits = row_fits_wide width marks key row fits

pub net_widens : NetWidens
unfolding net
net_widens width marks key None None b x = refl
net_widens width marks key None (Some x) hb hx = refl
net_widens width marks key (Some b) None hb hx = refl
net_widens width marks key (Some b) (Some x) hb hx =
    let n = width - length marks in
    let one = row_as width marks b hb.wide in
    let other = row_as width marks x hx.wide in
    let level : length b ≡ length x = omega (arith, hb.wide, hx.wide) in
    let same = same_more n b x level in
    let olds = old_more n marks b x hb.wide hx.wide ∙ sym (fields_as width marks (old_record marks b x) (length_old marks b x hb.wide hx.wide)) in
    let news = new_more n b x level ∙ sym (fields_as width marks (new_record b x) (length_new b x level ∙ hb.wide)) in
    rw (one, other, same) (by_test (same_row b x) _ (λ e. simp e refl) (λ e. simp (e, olds, news) refl))
