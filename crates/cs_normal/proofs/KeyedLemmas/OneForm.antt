-- The normal form of one change, made or recognised.
use Rattle.std.proofs.Common.{◌≡◌, Bool, true, false, List, [], ◌∷◌, ◌&&◌, refl, Some}
use Rattle.std.specs.Prelude.{not, ◌||◌, if◌then◌else◌, Result, Ok, Err, OnOk}
use Rattle.cs_value.specs.declared.value.Field.{Field}
use Rattle.cs_value.specs.declared.value.Field.TheVariants.{Undefined, Is}
use Rattle.cs_change.specs.Columns.{is_blank}
use Rattle.cs_change.specs.Listed.{listed}
use Rattle.cs_change.specs.declared.change.Change.TheVariants.{Update}
use Rattle.cs_change.specs.Facts.{both}
use Rattle.cs_normal.specs.keyed.NormalForm.{normal_old, normal_new, normal_olds, normal_news, normal_form}
use Rattle.cs_normal.specs.keyed.Steps.Forms.{is_normal_column, normal_columns}

pub on_ok : {A E : Type 0} (r : Result A E) (P Q : Type 0) → (P → Q) → OnOk r P → OnOk r Q
on_ok (Ok x) P Q f p = f p
on_ok (Err e) P Q f p = tt

-- no update is left
pub none_left : (marks : List Bool) (flag : Bool) (old new : List Field) → is_blank (normal_news marks old new) ≡ true → listed (normal_form marks (Update flag old new)) ≡ []
unfolding normal_form
none_left marks flag old new none = rw none refl

or_true : (m : Bool) (o : Field) → (if m || true then o else Undefined) ≡ o
or_true true o = refl
or_true false o = refl

not_true : (b : Bool) → not b ≡ true → b ≡ false
not_true false e = refl
not_true true e = cc

column_kept : (m : Bool) (o n : Field) → is_normal_column m o n ≡ true → (normal_old m o n ≡ o) × (normal_new m o n ≡ n)
column_kept m o (Is v) e = (rw e (or_true m o), rw e refl)
column_kept true o Undefined e = (refl, refl)
column_kept false Undefined Undefined e = (refl, refl)
column_kept false (Is u) Undefined e = cc

columns_kept : (marks : List Bool) (old new : List Field) → normal_columns marks old new ≡ true → (normal_olds marks old new ≡ old) × (normal_news marks old new ≡ new)
unfolding normal_columns normal_olds normal_news
columns_kept [] [] [] e = (refl, refl)
columns_kept (m ∷ marks) (o ∷ old) (n ∷ new) e =
    let parts = both (is_normal_column m o n) (normal_columns marks old new) e in
    let here = column_kept m o n parts.0 in
    let rest = columns_kept marks old new parts.1 in
    (cc, cc)
columns_kept [] (o ∷ old) new e = cc
columns_kept [] [] (n ∷ new) e = cc
columns_kept (m ∷ marks) [] new e = cc
columns_kept (m ∷ marks) (o ∷ old) [] e = cc

-- an update that is in normal form already
pub update_kept : (marks : List Bool) (flag : Bool) (old new : List Field) → (normal_columns marks old new && not (is_blank new)) ≡ true → normal_form marks (Update flag old new) ≡ Some (Update flag old new)
unfolding normal_form
update_kept marks flag old new e =
    let parts = both (normal_columns marks old new) (not (is_blank new)) e in
    let kept = columns_kept marks old new parts.0 in
    let some : is_blank new ≡ false = not_true (is_blank new) parts.1 in
    rw (kept.0, kept.1, some) refl
