-- An edit keeps the rows before what is pending.
use Rattle.std.proofs.Common.{◌≡◌, ℕ, List, not, Option, Some, None, Result, Ok, Err, refl, sym, ap, ap₂, subst, ◌∙◌}
use Rattle.std.specs.Prelude.{Contains}
use Rattle.cs_value.specs.Facts.{by_test}
use Rattle.cs_value.specs.Catalog.{AreTables}
use Rattle.cs_value.specs.Key.{Place}
use Rattle.cs_value.specs.Same.{same_place}
use Rattle.cs_value.specs.declared.catalog.TableDef.{TableDef}
use Rattle.cs_normal.specs.State.{AreSame, IsStateOf, MayStandAt}
use Rattle.cs_apply.specs.Spots.{spot_refl}
use Rattle.cs_pending.specs.Edits.{Asked, after_edit, edit_found, edit_table, has_set_key, has_widths, leaves_key, left_in, named, wanted_of}
use Rattle.cs_pending.specs.Laws.{EditKeepsBefore}
use Rattle.cs_pending.specs.OnePlace.{by_spot}
use Rattle.cs_pending.specs.Settled.{Catalogs, middle_put}
use Rattle.cs_pending.specs.Shows.{IsSoundOf}
use Rattle.cs_pending.specs.View.{View, edited, middle, put_at, settled}
use Rattle.cs_pending.specs.declared.fault.EditFault.{EditFault}
use Rattle.cs_pending.proofs.Named.{first_named}

ok_is : {T E : Type 0} (a b : T) → ◌≡◌ {A = Result T E} (Ok a) (Ok b) → a ≡ b
ok_is a b e = cc

module _ (tables : List TableDef) (law : Catalogs tables) (view : View) (sound : IsSoundOf tables view.pending view.tables) where
  module _ (table : TableDef) (inside : Contains tables table) (key : List ℕ) where
    abbrev put : Place → View
    put mine = settled table key (middle view table.name key) mine view

    kept_put : (mine : Place) → IsStateOf tables (put mine).tables → AreSame (middle view) (middle (put mine))
    kept_put mine state n k =
        let here : put_at table.name key mine view.tables table.name key ≡ mine = (let e = spot_refl (table.name, key) in simp e refl) in
        let stands = subst (λ (p : Place). MayStandAt tables table.name key p) here (state table.name key) in
        middle_put tables law view table key (middle view table.name key) mine inside sound (sound.before_state table.name key) stands n k
        ∙ by_spot n k table.name key _ (λ e same_n same_k. simp e (ap₂ (λ (a b : List ℕ). middle view a b) (sym same_n) (sym same_k))) (λ e. simp e refl)

    kept_edited : (mine : Place) (next : View) → edited table key mine view ≡ next → IsStateOf tables next.tables → AreSame (middle view) (middle next)
    kept_edited mine next is state =
        by_test (same_place (view.tables table.name key) mine) _
        (λ t. let same : view ≡ next = rw t at is in (λ n k. ap (λ (v : View). middle v n k) (sym same)))
        (λ t. let same : put mine ≡ next = rw t at is in
        subst (λ (v : View). AreSame (middle view) (middle v)) same (kept_put mine (subst (λ (v : View). IsStateOf tables v.tables) (sym same) state)))

    kept_left : (left : Result Place EditFault) (next : View) → left_in table key view left ≡ Ok next → IsStateOf tables next.tables → AreSame (middle view) (middle next)
    kept_left (Ok mine) next e state = kept_edited mine next (ok_is (edited table key mine view) next e) state
    kept_left (Err fault) next e state = absurd cc

  kept_table : (table : TableDef) → Contains tables table → (asked : Asked) (next : View) → edit_table table asked view ≡ Ok next → IsStateOf tables next.tables → AreSame (middle view) (middle next)
  kept_table table inside asked next e state =
      by_test (not (has_widths table asked)) _ (λ a. absurd (let f = rw a at e in cc))
      (λ a. by_test (not (has_set_key table asked)) _ (λ b. absurd (let f = rw (a, b) at e in cc))
      (λ b. by_test (not (leaves_key table asked)) _ (λ c. absurd (let f = rw (a, b, c) at e in cc))
      (λ c. kept_left table inside _ (after_edit (wanted_of asked) _) next (rw (a, b, c) at e) state)))

  kept_found : (name : List ℕ) (found : Option TableDef) → named name tables ≡ found → (asked : Asked) (next : View) → edit_found found asked view ≡ Ok next → IsStateOf tables next.tables → AreSame (middle view) (middle next)
  kept_found name None is asked next e state = absurd cc
  kept_found name (Some table) is asked next e state = kept_table table (first_named name tables table is).0 asked next e state

pub edit_keeps_before : ((tables : List TableDef) → AreTables tables → Catalogs tables) → EditKeepsBefore
edit_keeps_before law tables name asked view next are sound state e = kept_found tables (law tables are) view sound name (named name tables) refl asked next e state
