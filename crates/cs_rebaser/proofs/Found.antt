-- What is asked of a blob holds, or doesn't.
use Rattle.std.proofs.Common.{◌≡◌, Bool, false, List, [], ◌∷◌, map, inl, inr}
use Rattle.std.specs.Prelude.{◌≢◌, ◌⊎◌}
use Rattle.std.specs.List.{All, AllByRecursion, Contains, IsDistinct}
use Rattle.std.specs.Str.{bytes_eq}
use Rattle.std.proofs.lemmas.Bool.{cases_Bool}
use Rattle.std.proofs.lemmas.Bool.Decides.{not_from_Decides}
use Rattle.std.proofs.lemmas.Slice.Eq.{bytes_eq-Decides}
use Rattle.cs_value.specs.Decided.{OrNot, all_or_one, same_marks_or_not}
use Rattle.cs_change.specs.Spelling.{marks_of}
use Rattle.cs_blob.specs.declared.blob.BlobGroup.{BlobGroup}
use Rattle.cs_normal.specs.declared.normal.TableChanges.{TableChanges}
use Rattle.cs_rebaser.specs.Rebased.{HasShapeOf, placed, Placed, same_spot}
use Rattle.cs_rebaser.specs.RebasedLaws.{EachOnceOrNot, ShapesOrWrong}

-- ---- places

none_alike : {K : Type 0} (eq : K → K → Bool) (x : K) (xs : List K) → OrNot (AllByRecursion (λ y. eq x y ≡ false) xs)
none_alike eq x [] = inl tt
none_alike eq x (y ∷ xs) =
    elim (cases_Bool (eq x y)) [
      | inl same ↦ inr (λ h. let differ : eq x y ≡ false = h.0 in cc)
      | inr differ ↦ elim (none_alike eq x xs) [ inl all ↦ inl (differ, all) | inr some ↦ inr (λ h. some h.1) ]
    ]

distinct_or_not : {K : Type 0} (eq : K → K → Bool) (xs : List K) → OrNot (IsDistinct eq xs)
unfolding IsDistinct
distinct_or_not eq [] = inl tt
distinct_or_not eq (x ∷ xs) =
    elim (none_alike eq x xs) [
      | inr some ↦ inr (λ h. some h.0)
      | inl none ↦ elim (distinct_or_not eq xs) [ inl all ↦ inl (none, all) | inr twice ↦ inr (λ h. twice h.1) ]
    ]

pub each_once_or_not : EachOnceOrNot
each_once_or_not blob = distinct_or_not same_spot (map (λ (p : Placed). p.0) (placed blob))

-- ---- shapes

abbrev IsOfOtherShape : BlobGroup → TableChanges → Type 0
IsOfOtherShape group table = (group.name ≡ table.name) × (marks_of group.marks ≢ table.marks)

shape_or_other : (group : BlobGroup) (table : TableChanges) → HasShapeOf group table ⊎ IsOfOtherShape group table
shape_or_other group table =
    elim (same_marks_or_not (marks_of group.marks) table.marks) [
      | inl same ↦ inl (λ named. same)
      | inr differ ↦ elim (cases_Bool (bytes_eq group.name table.name)) [
        | inl named ↦ inr ((bytes_eq-Decides group.name table.name).0 named, differ)
        | inr apart ↦ inl (λ named. absurd (not_from_Decides (bytes_eq group.name table.name) (bytes_eq-Decides group.name table.name) apart named))
      ]
    ]

-- a table that this group has another shape than
abbrev HasOther : List TableChanges → BlobGroup → Type 0
HasOther local group = (table : TableChanges) × Contains local table × IsOfOtherShape group table

with_all : (local : List TableChanges) (group : BlobGroup) → All (HasShapeOf group) local ⊎ HasOther local group
with_all local group = all_or_one (HasShapeOf group) (IsOfOtherShape group) (shape_or_other group) local

pub shapes_or_wrong : ShapesOrWrong
shapes_or_wrong blob local =
    elim (all_or_one (λ group. All (HasShapeOf group) local) (HasOther local) (with_all local) blob) [
      | inl all ↦ inl all
      | inr (group, here, (table, there, wrong)) ↦ inr (group, table, here, there, wrong.0, wrong.1)
    ]
