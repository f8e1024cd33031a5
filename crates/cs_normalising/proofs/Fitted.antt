-- The normal form of what the reader takes is what the reader takes.
use Rattle.std.proofs.Common.{Bool, true, false, List, [], ◌∷◌, Option, Some, None}
use Rattle.std.specs.List.{AllByRecursion}
use Rattle.cs_value.specs.Facts.{by_test}
use Rattle.cs_value.specs.declared.value.Field.{Field}
use Rattle.cs_value.specs.declared.value.Field.TheVariants.{Undefined, Is}
use Rattle.cs_record.specs.Spelling.{Fits}
use Rattle.cs_change.specs.Columns.{is_blank}
use Rattle.cs_change.specs.Spelling.{FitsChange, AreUpdateColumns, IsUpdateColumn}
use Rattle.cs_change.specs.declared.change.Change.{Change}
use Rattle.cs_change.specs.declared.change.Change.TheVariants.{Insert, Delete, Update}
use Rattle.cs_normal.specs.keyed.NormalForm.{changes_value, normal_old, normal_new, normal_olds, normal_news, normal_form}

old_fits : (m : Bool) (o n : Field) → Fits o → Fits (normal_old m o n)
old_fits true o n f = f
old_fits false o n f = by_test (changes_value false o n) _ (λ e. simp e f) (λ e. simp e tt)

new_fits : (m : Bool) (o n : Field) → Fits n → Fits (normal_new m o n)
new_fits m o n f = by_test (changes_value m o n) _ (λ e. simp e f) (λ e. simp e tt)

column_fits : (m : Bool) (o n : Field) → IsUpdateColumn m o n → IsUpdateColumn m (normal_old m o n) (normal_new m o n)
column_fits true (Is u) Undefined c = tt
column_fits true (Is u) (Is v) c = tt
column_fits true Undefined n c = absurd c
column_fits false o Undefined c = tt
column_fits false (Is u) (Is v) c =
    by_test (changes_value false (Is u) (Is v)) _ (λ e. simp e tt) (λ e. simp e tt)
column_fits false Undefined (Is v) c = absurd c

columns_fit : (marks : List Bool) (old new : List Field) → AreUpdateColumns marks old new → AreUpdateColumns marks (normal_olds marks old new) (normal_news marks old new)
unfolding normal_olds normal_news
columns_fit [] [] [] c = tt
columns_fit (m ∷ marks) (o ∷ old) (n ∷ new) c = (column_fits m o n c.0, columns_fit marks old new c.1)
columns_fit [] [] (n ∷ new) c = absurd c
columns_fit [] (o ∷ old) new c = absurd c
columns_fit (m ∷ marks) [] new c = absurd c
columns_fit (m ∷ marks) (o ∷ old) [] c = absurd c

pub olds_fit : (marks : List Bool) (old new : List Field) → AllByRecursion Fits old → AllByRecursion Fits (normal_olds marks old new)
unfolding normal_olds
olds_fit [] old new f = tt
olds_fit (m ∷ marks) [] new f = tt
olds_fit (m ∷ marks) (o ∷ old) [] f = tt
olds_fit (m ∷ marks) (o ∷ old) (n ∷ new) f = (old_fits m o n f.0, olds_fit marks old new f.1)

pub news_fit : (marks : List Bool) (old new : List Field) → AllByRecursion Fits new → AllByRecursion Fits (normal_news marks old new)
unfolding normal_news
news_fit [] old new f = tt
news_fit (m ∷ marks) [] new f = tt
news_fit (m ∷ marks) (o ∷ old) [] f = tt
news_fit (m ∷ marks) (o ∷ old) (n ∷ new) f = (new_fits m o n f.0, news_fit marks old new f.1)

abbrev pub FitsIfAny : List Bool → Option Change → Type 0
FitsIfAny marks None = Unit {0}
FitsIfAny marks (Some change) = FitsChange marks change

pub form_fits : (marks : List Bool) (change : Change) → FitsChange marks change → FitsIfAny marks (normal_form marks change)
unfolding normal_form
form_fits marks (Insert flag new) f = f
form_fits marks (Delete flag old) f = f
form_fits marks (Update flag old new) f =
    by_test (is_blank (normal_news marks old new)) _ (λ e. simp e tt) (λ e. simp e (columns_fit marks old new f.0, olds_fit marks old new f.1, news_fit marks old new f.2))
