-- The normal form of a table's changes takes no more bytes than the changes.
use Rattle.std.proofs.Common.{◌≡◌, ℕ, ◌≤◌, Bool, true, false, List, [], ◌∷◌, length, Option, Some, None, refl, arith, length-append}
use Rattle.std.specs.List.{flat_map, sum_by}
use Rattle.std.specs.List.Sorted.{IsPermutation}
use Rattle.std.proofs.lemmas.List.Sorted.{sum_by-IsPermutation}
use Rattle.std.proofs.lemmas.List.Sums.{sum_by-cons}
use Rattle.cs_value.specs.Facts.{by_test}
use Rattle.cs_value.specs.declared.value.Value.TheVariants.{Null, Int, Text, Blob}
use Rattle.cs_value.specs.declared.value.Field.{Field}
use Rattle.cs_value.specs.declared.value.Field.TheVariants.{Undefined, Is}
use Rattle.cs_record.specs.Spelling.{field, record_of}
use Rattle.cs_change.specs.Columns.{is_blank}
use Rattle.cs_change.specs.Spelling.{change_spelling, changes_spelling}
use Rattle.cs_change.specs.declared.change.Change.{Change}
use Rattle.cs_change.specs.declared.change.Change.TheVariants.{Insert, Delete, Update}
use Rattle.cs_normal.specs.keyed.NormalForm.{change_bytes, has_key, normal_form, normal_old, normal_new, normal_olds, normal_news, changes_value}
use Rattle.cs_normal.specs.keyed.Prepared.{Entries, prepared, kept}

field_takes_a_byte : (f : Field) → 1 ≤ length (field f)
field_takes_a_byte Undefined = omega arith
field_takes_a_byte (Is Null) = omega arith
field_takes_a_byte (Is (Int number)) = omega arith
field_takes_a_byte (Is (Text text)) = omega arith
field_takes_a_byte (Is (Blob bytes)) = omega arith

old_size : (m : Bool) (o n : Field) → length (field (normal_old m o n)) ≤ length (field o)
old_size true o n = omega arith
old_size false o n =
    by_test (changes_value false o n) _ (λ e. simp e (omega arith)) (λ e. simp e (field_takes_a_byte o))

new_size : (m : Bool) (o n : Field) → length (field (normal_new m o n)) ≤ length (field n)
new_size m o n =
    by_test (changes_value m o n) _ (λ e. simp e (omega arith)) (λ e. simp e (field_takes_a_byte n))

olds_size : (marks : List Bool) (old new : List Field) → length (record_of (normal_olds marks old new)) ≤ length (record_of old)
unfolding normal_olds
olds_size [] old new = omega arith
olds_size (m ∷ marks) [] new = omega arith
olds_size (m ∷ marks) (o ∷ old) [] = omega arith
olds_size (m ∷ marks) (o ∷ old) (n ∷ new) =
    simp length-append (omega (arith, old_size m o n, olds_size marks old new))

news_size : (marks : List Bool) (old new : List Field) → length (record_of (normal_news marks old new)) ≤ length (record_of new)
unfolding normal_news
news_size [] old new = omega arith
news_size (m ∷ marks) [] new = omega arith
news_size (m ∷ marks) (o ∷ old) [] = omega arith
news_size (m ∷ marks) (o ∷ old) (n ∷ new) =
    simp length-append (omega (arith, new_size m o n, news_size marks old new))

-- the bytes of a change, if there is one
abbrev size_any : Option Change → ℕ
size_any None = 0
size_any (Some change) = length (change_spelling change)

abbrev entry_size : List ℕ × Option Change → ℕ
entry_size e = size_any e.1

normal_form_size : (marks : List Bool) (change : Change) → size_any (normal_form marks change) ≤ length (change_spelling change)
unfolding normal_form
normal_form_size marks (Insert flag new) = omega arith
normal_form_size marks (Delete flag old) = omega arith
normal_form_size marks (Update flag old new) =
    by_test (is_blank (normal_news marks old new)) _ (λ e. simp e (omega arith)) (λ e. simp (e, length-append) (omega (arith, olds_size marks old new, news_size marks old new)))

prepared_size : (marks : List Bool) (changes : List Change) → sum_by entry_size (prepared marks changes) ≤ length (changes_spelling changes)
unfolding prepared
prepared_size marks [] = omega arith
prepared_size marks (c ∷ changes) =
    by_test (has_key marks c) _ (λ e. simp (e, length-append) (omega (arith, sum_by-cons entry_size (change_bytes marks c, normal_form marks c) (prepared marks changes), normal_form_size marks c, prepared_size marks changes))) (λ e. simp e (omega arith))

kept_size : (es : Entries) → length (flat_map (λ keyed. change_spelling keyed.1) (kept es)) ≡ sum_by entry_size es
unfolding kept
kept_size [] = refl
kept_size ((key, None) ∷ es) = omega (arith, kept_size es)
kept_size ((key, Some change) ∷ es) =
    simp length-append (omega (arith, sum_by-cons entry_size (key, Some change) es, kept_size es))

pub kept_shorter : (marks : List Bool) (changes : List Change) (fs : Entries) → IsPermutation (prepared marks changes) fs → length (flat_map (λ keyed. change_spelling keyed.1) (kept fs)) ≤ length (changes_spelling changes)
kept_shorter marks changes fs p =
    omega (arith, kept_size fs, sum_by-IsPermutation entry_size (prepared marks changes) fs p, prepared_size marks changes)
