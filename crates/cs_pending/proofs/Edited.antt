-- Edits of one place: what they leave, and that it is a row of the table.
use Rattle.std.proofs.Common.{◌≡◌, ◌⊎◌, ℕ, suc, Bool, true, false, List, [], ◌∷◌, length, Some, None, Ok, Err, inl, inr, refl, sym, ap, ◌∙◌, subst}
use Rattle.std.specs.Prelude.{Contains}
use Rattle.std.specs.List.{AllByRecursion, list_all}
use Rattle.cs_value.specs.Catalog.{AreTables, marked, is_set}
use Rattle.cs_value.specs.Laws.{OnePlaceOfName}
use Rattle.cs_value.specs.Key.{Place}
use Rattle.cs_value.specs.Same.{same_place}
use Rattle.cs_value.specs.declared.catalog.TableDef.{TableDef}
use Rattle.cs_value.specs.declared.value.Value.{Value}
use Rattle.cs_value.specs.declared.value.Field.{Field}
use Rattle.cs_value.specs.declared.value.Field.TheVariants.{Undefined, Is}
use Rattle.cs_record.specs.Spelling.{Fits}
use Rattle.cs_change.specs.Columns.{set_columns, field_or}
use Rattle.cs_normal.specs.Changes.{key_bytes}
use Rattle.cs_normal.specs.State.{IsRowOf, MayStandAt}
use Rattle.cs_store.specs.Contents.{Contents}
use Rattle.cs_pending.specs.Settling.{IsStaged, Settles}
use Rattle.cs_pending.specs.declared.settling.Settling.{Settling}
use Rattle.cs_store.specs.declared.fault.StoreFault.{StoreFault}
use Rattle.cs_store.specs.declared.fault.StoreFault.TheVariants as stored
use Rattle.cs_apply.specs.NormalTasks.{one_table}
use Rattle.cs_pending.specs.Edits.{IsOfStore, IsWantedAt, after_edit, edit_at, keeps_key, left_in}
use Rattle.cs_pending.specs.Placing.{StandsIn}
use Rattle.cs_pending.specs.View.{View, edited, middle, settled}
use Rattle.cs_pending.specs.declared.fault.EditFault.{EditFault}
use Rattle.cs_pending.specs.declared.fault.EditFault.TheVariants.{Memory, Device}
use Rattle.cs_pending.specs.declared.placing.Standing.{Standing}
use Rattle.cs_pending.specs.declared.wanted.Wanted.{Wanted}
use Rattle.cs_pending.specs.declared.wanted.Wanted.TheVariants.{Insert, Update, Delete}

-- ---- fields that keep the key

abbrev AreSpelled : List Value → Type 0
AreSpelled row = AllByRecursion (λ (v : Value). Fits (Is v)) row

field_fits : (field : Field) (v : Value) → Fits field → Fits (Is v) → Fits (Is (field_or field v))
field_fits Undefined v f w = w
field_fits (Is u) v f w = f

set_fits : (fields : List Field) (row : List Value) → AllByRecursion Fits fields → AreSpelled row → AreSpelled (set_columns fields row)
unfolding set_columns
set_fits [] row f r = r
set_fits (field ∷ fields) [] f r = r
set_fits (field ∷ fields) (v ∷ row) f r = (field_fits field v f.0 r.0, set_fits fields row f.1 r.1)

set_wide : (fields : List Field) (row : List Value) → length (set_columns fields row) ≡ length row
unfolding set_columns
set_wide [] row = refl
set_wide (field ∷ fields) [] = refl
set_wide (field ∷ fields) (v ∷ row) = ap suc (set_wide fields row)

set_keeps : (marks : List Bool) (fields : List Field) (row : List Value) → keeps_key marks fields ≡ true → marked marks (set_columns fields row) ≡ marked marks row
unfolding set_columns keeps_key
set_keeps [] fields row k = refl
set_keeps (m ∷ marks) [] row k = refl
set_keeps (m ∷ marks) (field ∷ fields) [] k = refl
set_keeps (true ∷ marks) (Undefined ∷ fields) (v ∷ row) k = ap (λ (r : List Value). v ∷ r) (set_keeps marks fields row k)
set_keeps (true ∷ marks) (Is u ∷ fields) (v ∷ row) k = absurd cc
set_keeps (false ∷ marks) (Undefined ∷ fields) (v ∷ row) k = set_keeps marks fields row k
set_keeps (false ∷ marks) (Is u ∷ fields) (v ∷ row) k = set_keeps marks fields row k

updated_row : (table : TableDef) (key : List ℕ) (fields : List Field) (row : List Value) → IsWantedAt table key (Update fields) → IsRowOf table key row → IsRowOf table key (set_columns fields row)
updated_row table key fields row wanted is =
    let kept : marked table.key_marks (set_columns fields row) ≡ marked table.key_marks row = set_keeps table.key_marks fields row wanted.2 in
    record {
      fits = (set_wide fields row ∙ is.fits.0, set_fits fields row wanted.1 is.fits.1);
      set = ap (list_all is_set) kept ∙ is.set;
      keyed = is.keyed ∙ ap key_bytes (sym kept);
    }

-- ---- what an edit leaves may stand

module _ (tables : List TableDef) (are : AreTables tables) (one : OnePlaceOfName) (table : TableDef) (key : List ℕ) (inside : Contains tables table) where
  row_of : (row : List Value) → MayStandAt tables table.name key (Some row) → IsRowOf table key row
  row_of row (other, among, named, is) =
      subst (λ (t : TableDef). IsRowOf t key row) (one_table one tables other table are among inside named) is

  pub left_stands : (wanted : Wanted) (stood mine : Place) → IsWantedAt table key wanted → MayStandAt tables table.name key stood → after_edit wanted stood ≡ Ok mine → MayStandAt tables table.name key mine
  left_stands (Insert row) None mine is stands e =
      subst (λ (p : Place). MayStandAt tables table.name key p) (let f : Some row ≡ mine = cc in f) (table, inside, refl, is)
  left_stands (Insert row) (Some other) mine is stands e = absurd cc
  left_stands (Update fields) None mine is stands e = absurd cc
  left_stands (Update fields) (Some row) mine is stands e =
      subst (λ (p : Place). MayStandAt tables table.name key p) (let f : Some (set_columns fields row) ≡ mine = cc in f) (table, inside, refl, updated_row table key fields row is (row_of row stands))
  left_stands Delete None mine is stands e = absurd cc
  left_stands Delete (Some row) mine is stands e = subst (λ (p : Place). MayStandAt tables table.name key p) (let f : None ≡ mine = cc in f) tt

-- ---- the view after an edit

module _ (tables : List TableDef) (are : AreTables tables) (one : OnePlaceOfName) (table : TableDef) (key : List ℕ) (inside : Contains tables table) (wanted : Wanted) (before : Standing) (mine : Place) (is : IsWantedAt table key wanted) (left : after_edit wanted before.mine ≡ Ok mine) where
  leads_to : (view : View) → StandsIn view table key before → edit_at table key wanted view ≡ Ok (edited table key mine view)
  leads_to view stands = ap (left_in table key view) (ap (after_edit wanted) (sym stands.mine_is) ∙ left)

  -- where it leaves what stands there, nothing changes
  pub stays_staged : (contents : Contents) (begun : ℕ) (settling : Settling) (view : View) → same_place before.mine mine ≡ true → StandsIn view table key before
      → Settles tables contents begun settling view → IsStaged tables contents begun (edit_at table key wanted) view settling
  stays_staged contents begun settling view same stands settles =
      let still : same_place (view.tables table.name key) mine ≡ true = ap (λ (p : Place). same_place p mine) (sym stands.mine_is) ∙ same in
      let stays : edited table key mine view ≡ view = simp still refl in
      (view, leads_to view stands ∙ ap Ok stays, settles)

  -- else the place is settled
  pub put_staged : (contents : Contents) (begun : ℕ) (old new : Settling) (view : View) → same_place before.mine mine ≡ false → StandsIn view table key before
      → Settles tables contents begun old view
      → (MayStandAt tables table.name key before.base → MayStandAt tables table.name key mine → Settles tables contents begun new (settled table key before.base mine view))
      → IsStaged tables contents begun (edit_at table key wanted) view new
  put_staged contents begun old new view apart stands settles claim =
      let differs : same_place (view.tables table.name key) mine ≡ false = ap (λ (p : Place). same_place p mine) (sym stands.mine_is) ∙ apart in
      let next : edited table key mine view ≡ settled table key (middle view table.name key) mine view = simp differs refl in
      let base_stands = subst (λ (p : Place). MayStandAt tables table.name key p) (sym stands.base_is) (settles.sound.before_state table.name key) in
      let stood = subst (λ (p : Place). MayStandAt tables table.name key p) (sym stands.mine_is) (settles.sound.after_state table.name key) in (
        settled table key (middle view table.name key) mine view,
        leads_to view stands ∙ ap Ok next,
        subst (λ (b : Place). Settles tables contents begun new (settled table key b mine view)) stands.base_is
            (claim base_stands (left_stands tables are one table key inside wanted before.mine mine is stood left)),
      )

-- what is refused at a place is refused of the view
pub refused_at : (table : TableDef) (key : List ℕ) (wanted : Wanted) (before : Standing) (view : View) (fault : EditFault) → StandsIn view table key before
    → (fault ≡ Memory) ⊎ (after_edit wanted before.mine ≡ Err fault) → IsOfStore fault ⊎ (edit_at table key wanted view ≡ Err fault)
refused_at table key wanted before view fault stands (inl memory) = inl (inl memory)
refused_at table key wanted before view fault stands (inr refused) =
    inr (ap (left_in table key view) (ap (after_edit wanted) (sym stands.mine_is) ∙ refused))

-- a fault of the store that is handed on as the device's
pub was_device : (fault : StoreFault) (told : EditFault) → (fault ≡ stored.Memory → told ≡ Memory) → told ≡ Device → fault ≡ stored.Device
was_device stored.Memory told memory is = absurd (let no = sym (memory refl) ∙ is in cc)
was_device stored.Device told memory is = refl
