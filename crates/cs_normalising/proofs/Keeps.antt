-- The normal form of a change is normal, and means the same wherever the change is defined.
use Rattle.std.proofs.Common.{inl, inr, ◌≡◌, Bool, true, List, [], ◌∷◌, Some, None, refl, sym, ap, ◌∙◌}
use Rattle.cs_value.specs.Key.{Place, FitsPlace}
use Rattle.cs_value.specs.Catalog.{marked}
use Rattle.cs_value.specs.Facts.{by_test, same_value-Decides, same_value-tells}
use Rattle.cs_value.specs.Same.{same_value}
use Rattle.cs_value.specs.declared.value.Value.{Value}
use Rattle.cs_value.specs.declared.value.Field.{Field}
use Rattle.cs_value.specs.declared.value.Field.TheVariants.{Undefined, Is}
use Rattle.cs_change.specs.Action.{Updates, action_any, after, after_any}
use Rattle.cs_change.specs.Columns.{fits, column_fits, holds, set_columns, is_blank}
use Rattle.cs_change.specs.Normal.{NormalUpdate, IsNormalIfAny}
use Rattle.cs_change.specs.Normal as n
use Rattle.cs_change.specs.Then.{is_idle}
use Rattle.cs_change.specs.declared.change.Change.TheVariants.{Insert, Delete, Update}
use Rattle.cs_normal.specs.keyed.NormalForm.{normal_form, normal_olds, normal_news, update_unless_blank}
use Rattle.cs_normalising.specs.Laws.{LenientUpdate, no_column, key_column, key_again, unmodified, modified, NormalFormKeeps}
use Rattle.cs_order.specs.Facts.{both_true}

conjoin : {A : Type 0} {a a' : A} {r r' : List A} → a ≡ a' → r ≡ r' → a ∷ r ≡ a' ∷ r'
conjoin e f = cc

normal_records : {marks : List Bool} {key : List Value} {old new : List Field} → LenientUpdate marks key old new → NormalUpdate marks key (normal_olds marks old new) (normal_news marks old new)
unfolding normal_olds normal_news is_idle holds
normal_records no_column = n.no_column
normal_records (key_column k l) = n.key_column k (normal_records l)
normal_records (key_again k l) = n.key_column k (normal_records l)
normal_records (unmodified o l) = n.unmodified (normal_records l)
normal_records (modified u v l) =
    elim (same_value-tells u v) [
      | inl e ↦ simp e.0 (n.unmodified (normal_records l))
      | inr e ↦ simp e.0 (n.modified u v e.1 (normal_records l))
    ]

-- a normal form fits the row that the update fits, and sets the same
record Same (old new olds news : List Field) (row : List Value) : Type 0 where
  fit : fits olds news row ≡ true
  sets : set_columns news row ≡ set_columns new row

same_row_set : {marks : List Bool} {key : List Value} {old new : List Field} (row : List Value) → LenientUpdate marks key old new → marked marks row ≡ key → fits old new row ≡ true → Same old new (normal_olds marks old new) (normal_news marks old new) row
unfolding normal_olds normal_news is_idle holds fits column_fits set_columns
same_row_set [] no_column k f = record { fit = refl; sets = refl }
same_row_set (x ∷ row) no_column k f = cc
same_row_set [] (key_column j l) k f = cc
same_row_set (x ∷ row) (key_column j l) k f =
    let rest = same_row_set row l (cc) f in
    record { fit = rest.fit; sets = conjoin refl rest.sets }
same_row_set [] (key_again j l) k f = cc
same_row_set (x ∷ row) (key_again j l) k f =
    let parts = both_true _ _ f in
    let rest = same_row_set row l (cc) parts.1 in
    let is : x ≡ j = cc in
    record { fit = rest.fit; sets = conjoin is rest.sets }
same_row_set [] (unmodified o l) k f = cc
same_row_set (x ∷ row) (unmodified o l) k f =
    let rest = same_row_set row l k f in
    record { fit = rest.fit; sets = conjoin refl rest.sets }
same_row_set [] (modified u v l) k f = cc
same_row_set (x ∷ row) (modified u v l) k f =
    let parts = both_true (same_value u x) _ f in
    let rest = same_row_set row l k parts.1 in
    let ux : u ≡ x = (same_value-Decides u x).0 parts.0 in
    elim (same_value-tells u v) [
      | inl e ↦ simp e.0 (record { fit = rest.fit; sets = conjoin (sym ux ∙ e.1) rest.sets })
      | inr e ↦ simp e.0 (record { fit = simp parts.0 rest.fit; sets = conjoin refl rest.sets })
    ]

blank_sets : (new : List Field) (row : List Value) → is_blank new ≡ true → set_columns new row ≡ row
unfolding is_blank set_columns
blank_sets [] row h = refl
blank_sets (Undefined ∷ new) [] h = refl
blank_sets (Undefined ∷ new) (v ∷ row) h = conjoin refl (blank_sets new row h)
blank_sets (Is u ∷ new) row h = cc

update_keeps : (marks : List Bool) (key : List Value) (flag : Bool) (old new : List Field) (base end : Place) → LenientUpdate marks key old new → FitsPlace marks key base → after (Updates old new) base ≡ Some end → after_any (action_any (update_unless_blank flag (normal_olds marks old new) (normal_news marks old new))) base ≡ Some end
unfolding after
update_keeps marks key flag old new None end l b h = cc
update_keeps marks key flag old new (Some row) end l b h =
    by_test (fits old new row) _ (λ f.
    let h' = simp f at h in
    let s = same_row_set row l b.keyed f in
    by_test (is_blank (normal_news marks old new)) _ (λ e.
    let put : row ≡ set_columns new row = sym (blank_sets (normal_news marks old new) row e) ∙ s.sets in
    let put' : Some (Some row) ≡ Some (Some (set_columns new row)) = ap (λ r. Some (Some r)) put in
    simp e (put' ∙ h')) (λ e. let fit = s.fit in let sets = s.sets in simp (e, fit, sets) h')) (λ f. let h' = simp f at h in cc)

pub keeps : NormalFormKeeps
unfolding normal_form
keeps marks key (Insert flag new) l = (l, λ base end b h. h)
keeps marks key (Delete flag old) l = (l, λ base end b h. h)
keeps marks key (Update flag old new) l =
    let normal = normal_records l in
    (by_test (is_blank (normal_news marks old new)) _ (λ e. simp e tt) (λ e. simp e (normal, refl)), λ base end b h. update_keeps marks key flag old new base end l b h)
