-- Answers that are lawful.
use Rattle.std.proofs.Common.{◌≡◌, ◌≢◌, true, List, [], Option, Some, None, refl, sym, subst, ap, ◌∙◌}
use Rattle.std.specs.Prelude.{IfSome, length, nat_lt}
use Rattle.std.proofs.lemmas.Option.{same_Some}
use Rattle.cs_value.specs.Facts.{by_test}
use Rattle.cs_value.specs.Key.{Place}
use Rattle.cs_value.specs.Same.{same_row}
use Rattle.cs_value.specs.declared.catalog.TableDef.{TableDef}
use Rattle.cs_value.specs.declared.value.Value.{Value}
use Rattle.cs_record.specs.Spelling.{row_bytes}
use Rattle.cs_change.specs.Action.{Action, Inserts, Deletes, Updates, action, after, after_any}
use Rattle.cs_change.specs.Columns.{fits}
use Rattle.cs_normal.specs.keyed.NormalForm.{change_bytes}
use Rattle.cs_normal.specs.State.{State, IsApplied}
use Rattle.cs_normal.specs.declared.normal.TableChanges.{TableChanges}
use Rattle.cs_conflict.specs.Conflict.{kind}
use Rattle.cs_conflict.specs.Lawful.{covers, IsLawful}
use Rattle.cs_conflict.specs.declared.kind.Kind.{Kind}
use Rattle.cs_conflict.specs.declared.kind.Kind.TheVariants.{DataDiffers, NotFound, KeyConflict}
use Rattle.cs_conflict.specs.declared.conflict.Conflict.{Conflict}
use Rattle.cs_conflict.specs.declared.conflict.Resolution.{Resolution}
use Rattle.cs_conflict.specs.declared.conflict.Resolution.TheVariants.{Omit, Replace, Abort}
use Rattle.cs_apply.specs.Shown.{IsConflictOn}
use Rattle.cs_rebaser.specs.Diamond.{IsLawfulOver}
use Rattle.cs_rebaser.specs.DiamondOfTables.{AnswersLawfully, local_in, local_beside, reached_keeps}
use Rattle.cs_operations_tests.specs.Answers.{by_kind, by_row, over}

-- ---- at one place

-- a row that is there is found
not_found : (remote : Action) (row : Place) → kind remote row ≡ Some NotFound → row ≡ None
unfolding kind
not_found remote None is = refl
not_found (Inserts new) (Some row) is = absurd (let e = is in cc)
not_found (Deletes old) (Some row) is =
    by_test (same_row row old) _ (λ t. absurd (let e = simp t at is in cc)) (λ t. absurd (let e = simp t at is in cc))
not_found (Updates old new) (Some row) is =
    by_test (fits old new row) _ (λ t. absurd (let e = simp t at is in cc)) (λ t. absurd (let e = simp t at is in cc))

-- a local change that leaves no row covers each remote one
covers_none : (local remote : Action) (place : Place) → after local place ≡ Some None → covers local remote ≡ true
unfolding after covers
covers_none (Inserts new) remote None leaves = absurd (let e = leaves in cc)
covers_none (Inserts new) remote (Some row) leaves = absurd (let e = leaves in cc)
covers_none (Deletes old) remote place leaves = refl
covers_none (Updates old new) remote None leaves = absurd (let e = leaves in cc)
covers_none (Updates old new) remote (Some row) leaves =
    by_test (fits old new row) _ (λ t. absurd (let e = simp t at leaves in cc)) (λ t. absurd (let e = simp t at leaves in cc))

lawful_over : (answer : Resolution) (local : Option Action) (remote : Action) (row : Place) (k : Kind) → kind remote row ≡ Some k → answer ≢ Abort
    → ((mine : Action) → local ≡ Some mine → IsLawful answer k (covers mine remote)) → IsLawfulOver answer local (Some remote) row
lawful_over answer None remote row k is goes lawful = tt
lawful_over answer (Some mine) remote row k is goes lawful =
    subst (λ (o : Option Kind). IfSome o (λ k. IsLawful answer k (covers mine remote) × (answer ≢ Abort))) (sym is) (lawful mine refl, goes)

-- OMIT where there is no row
omit_lawful : (local : Option Action) (remote : Action) (base row : Place) (k : Kind) → kind remote row ≡ Some k → row ≡ None → after_any local base ≡ Some row → IsLawfulOver Omit local (Some remote) row
omit_lawful local remote base row k is none left =
    lawful_over Omit local remote row k is (λ e. cc)
    (λ mine e. covers_none mine remote base (ap (λ (o : Option Action). after_any o base) (sym e) ∙ (left ∙ ap (λ (p : Place). Some p) none)))

-- REPLACE where there is one
replace_lawful : (local : Option Action) (remote : Action) (row : Place) (k : Kind) → kind remote row ≡ Some k → k ≢ NotFound → IsLawfulOver Replace local (Some remote) row
replace_lawful local remote row k is found = lawful_over Replace local remote row k is (λ e. cc) (λ mine e. found)

by_kind_here : (k : Kind) (answer : Resolution) (local : Option Action) (remote : Action) (base row : Place) → answer ≡ by_kind k → kind remote row ≡ Some k → after_any local base ≡ Some row
    → IsLawfulOver answer local (Some remote) row
by_kind_here NotFound answer local remote base row is of left =
    subst (λ (a : Resolution). IsLawfulOver a local (Some remote) row) (sym is) (omit_lawful local remote base row NotFound of (not_found remote row of) left)
by_kind_here DataDiffers answer local remote base row is of left =
    subst (λ (a : Resolution). IsLawfulOver a local (Some remote) row) (sym is) (replace_lawful local remote row DataDiffers of (λ e. cc))
by_kind_here KeyConflict answer local remote base row is of left =
    subst (λ (a : Resolution). IsLawfulOver a local (Some remote) row) (sym is) (replace_lawful local remote row KeyConflict of (λ e. cc))

-- a row that is there is not missing
found_row : (remote : Action) (row : List Value) (k : Kind) → kind remote (Some row) ≡ Some k → k ≢ NotFound
found_row remote row k is none = let e = not_found remote (Some row) (is ∙ ap (λ (x : Kind). Some x) none) in cc

by_row_here : (k : Kind) (answer : Resolution) (local : Option Action) (remote : Action) (base row : Place) → answer ≡ by_row row → answer ≢ Abort → kind remote row ≡ Some k → after_any local base ≡ Some row
    → IsLawfulOver answer local (Some remote) row
by_row_here k answer local remote base None is goes of left =
    subst (λ (a : Resolution). IsLawfulOver a local (Some remote) None) (sym is) (omit_lawful local remote base None k of refl left)
by_row_here k answer local remote base (Some row) is goes of left =
    by_test (nat_lt 1000 (length (row_bytes row))) _
    (λ t. absurd (goes (simp t at is)))
    (λ t. subst (λ (a : Resolution). IsLawfulOver a local (Some remote) (Some row)) (sym (simp t at is)) (replace_lawful local remote (Some row) k of (found_row remote row k of)))

-- over the local change
over_here : (k : Kind) (answer : Resolution) (local : Option Action) (remote : Action) (row : Place) → answer ≡ over local k → answer ≢ Abort → kind remote row ≡ Some k → IsLawfulOver answer local (Some remote) row
unfolding covers
over_here k answer None remote row is goes of = tt
over_here k answer (Some (Inserts new)) remote row is goes of = lawful_over answer (Some (Inserts new)) remote row k of goes (λ mine e. subst (λ (a : Resolution). IsLawful a k (covers mine remote)) (sym is) (subst (λ (m : Action). covers m remote ≡ true) (same_Some _ _ e) refl))
over_here k answer (Some (Deletes old)) remote row is goes of = lawful_over answer (Some (Deletes old)) remote row k of goes (λ mine e. subst (λ (a : Resolution). IsLawful a k (covers mine remote)) (sym is) (subst (λ (m : Action). covers m remote ≡ true) (same_Some _ _ e) refl))
over_here NotFound answer (Some (Updates old new)) remote row is goes of = absurd (goes is)
over_here DataDiffers answer (Some (Updates old new)) remote row is goes of =
    subst (λ (a : Resolution). IsLawfulOver a (Some (Updates old new)) (Some remote) row) (sym is) (replace_lawful (Some (Updates old new)) remote row DataDiffers of (λ e. cc))
over_here KeyConflict answer (Some (Updates old new)) remote row is goes of =
    subst (λ (a : Resolution). IsLawfulOver a (Some (Updates old new)) (Some remote) row) (sym is) (replace_lawful (Some (Updates old new)) remote row KeyConflict of (λ e. cc))

-- ---- over tables

module _ (tables : List TableDef) (local : List TableChanges) (base mine : State) (applied : IsApplied tables local base mine) where
  -- what the local change of a conflict's place left is the row that is shown
  row_left : (conflict : Conflict) (shown : IsConflictOn tables mine conflict)
      → after_any (local_beside tables local conflict) (base shown.table.name (change_bytes shown.table.key_marks conflict.change)) ≡ Some conflict.row
  row_left conflict shown =
      let at = change_bytes shown.table.key_marks conflict.change in
      ap (λ (o : Option TableDef). after_any (local_in local o conflict.change) (base shown.table.name at)) shown.stands
      ∙ (applied.1 shown.table.name at ∙ ap (λ (p : Place). Some p) (sym shown.of_row))

  module _ {F : Type 0} (asks : F → Conflict → Resolution → F → Type 0) where
    pub by_kind_lawful : ((f g : F) (conflict : Conflict) (answer : Resolution) → asks f conflict answer g → answer ≡ by_kind conflict.kind)
        → (f : F) → AnswersLawfully asks tables local mine f
    by_kind_lawful says f = λ g h conflict answer reached shown called goes.
        by_kind_here conflict.kind answer (local_beside tables local conflict) (action conflict.change) (base shown.table.name (change_bytes shown.table.key_marks conflict.change)) conflict.row
        (says g h conflict answer called) shown.of_kind (row_left conflict shown)

    pub by_row_lawful : ((f g : F) (conflict : Conflict) (answer : Resolution) → asks f conflict answer g → answer ≡ by_row conflict.row)
        → (f : F) → AnswersLawfully asks tables local mine f
    by_row_lawful says f = λ g h conflict answer reached shown called goes.
        by_row_here conflict.kind answer (local_beside tables local conflict) (action conflict.change) (base shown.table.name (change_bytes shown.table.key_marks conflict.change)) conflict.row
        (says g h conflict answer called) goes shown.of_kind (row_left conflict shown)

    -- where P is kept, and says what is looked into
    pub over_lawful : (P : F → Type 0) → ((f : F) (conflict : Conflict) (answer : Resolution) (g : F) → P f → asks f conflict answer g → P g)
        → ((f g : F) (conflict : Conflict) (answer : Resolution) → P f → asks f conflict answer g → answer ≢ Abort → answer ≡ over (local_beside tables local conflict) conflict.kind)
        → (f : F) → P f → AnswersLawfully asks tables local mine f
    over_lawful P keeps says f start = λ g h conflict answer reached shown called goes.
        over_here conflict.kind answer (local_beside tables local conflict) (action conflict.change) conflict.row
        (says g h conflict answer (reached_keeps asks tables mine P keeps start reached) called goes) goes shown.of_kind
